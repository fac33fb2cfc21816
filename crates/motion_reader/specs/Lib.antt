pub mod Component
pub mod Motion

pub mod Free
pub mod First

pub mod Line
pub mod Places

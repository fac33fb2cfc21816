pub mod Motion
pub mod Fetched

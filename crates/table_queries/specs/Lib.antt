pub mod Setup
pub mod Ranges

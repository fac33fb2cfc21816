pub mod Values
pub mod Reciprocals
pub mod Examples

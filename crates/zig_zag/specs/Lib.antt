pub mod Values
pub mod Placing

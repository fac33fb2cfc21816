pub mod Predicted
pub mod Block

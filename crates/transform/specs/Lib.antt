pub mod Block
pub mod Residual

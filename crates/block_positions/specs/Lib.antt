pub mod Positions
pub mod Answer

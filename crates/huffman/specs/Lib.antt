pub mod Tree
pub mod Code
pub mod Answer

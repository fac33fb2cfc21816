pub mod Choices
pub mod Answer

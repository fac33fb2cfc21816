pub mod Tokens
pub mod Answer

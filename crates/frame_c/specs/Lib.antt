pub mod Face
pub mod Turns

pub mod Flags
pub mod Coded
pub mod Answer

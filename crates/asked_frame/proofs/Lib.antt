pub mod Answered
pub mod Lent
pub mod Decoded

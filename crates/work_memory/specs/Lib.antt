pub mod Memory
pub mod Lengths

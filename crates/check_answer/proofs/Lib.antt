-- Sayings: what is said after the last packet. Found: the same as numbers. Assumes nothing.
pub mod Sayings
pub mod Found

-- Lengths: the published lengths. Clearing: work memory becomes zero. Assumes nothing.
pub mod Lengths
pub mod Clearing

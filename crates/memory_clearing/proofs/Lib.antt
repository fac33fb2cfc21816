-- Clearing: a list that becomes zero. Assumes nothing.
pub mod Clearing

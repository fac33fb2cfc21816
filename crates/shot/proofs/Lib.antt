-- Calls: the ways of the call.
pub mod Calls

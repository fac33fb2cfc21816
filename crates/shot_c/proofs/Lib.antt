-- Calls: the ways of the call. Said: the lists that it leaves say session and names for the next call.
pub mod Calls
pub mod Said

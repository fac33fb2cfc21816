-- Calls: the call, one law for each way that it goes. Claims: what is promised beside it.
pub mod Calls
pub mod Claims

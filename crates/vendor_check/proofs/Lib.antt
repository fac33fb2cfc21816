-- Compare: a whole file compared. Films: the frames of a shot, as they are compared. Sayings: the answer. Calls: the ways of the call.
pub mod Compare
pub mod Films
pub mod Calls

-- Call: the census call.
pub mod Call

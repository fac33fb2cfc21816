-- Ready: what the reading of a packet leaves for the making of its frame.
pub mod Ready

-- Lists: what answers return and leave, one law for each way. Assumes nothing.
pub mod Lists

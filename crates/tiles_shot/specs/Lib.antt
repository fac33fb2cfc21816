-- Call: the shot call with settings and maps. Claims: what is promised beside it.
pub mod Call
pub mod Claims

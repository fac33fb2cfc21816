-- Call: the shot call, and when it is refused. Tests: the same by the lengths of what is lent.
pub mod Call
pub mod Tests

-- Calls: the tests of the call. Tests: the same, as the program comes to them.
pub mod Calls
pub mod Tests

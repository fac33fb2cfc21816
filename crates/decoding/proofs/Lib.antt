pub mod Made
pub mod Readies
pub mod Answers

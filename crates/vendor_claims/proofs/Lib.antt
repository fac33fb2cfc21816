-- First: the byte that is named. Answers: when a file passes, and what wins. Reader: the same by request 1's reader.
pub mod First
pub mod Answers
pub mod Reader

-- What other crates cite: Laws, Strings (what a string is). Facts has what the functions' proofs need, Examples worked examples. Assumes nothing.
pub mod Facts
pub mod Laws
pub mod Strings
pub mod Examples

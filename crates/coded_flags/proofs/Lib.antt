-- What other crates cite: Laws, CodedLaws (the coded blocks), Order. Spread and Answers have what the functions' proofs need, Examples worked examples. Assumes nothing.
pub mod Spread
pub mod Order
pub mod Answers
pub mod Laws
pub mod CodedLaws
pub mod Examples

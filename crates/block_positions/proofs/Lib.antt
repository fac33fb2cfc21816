-- What other crates cite, and what the functions' proofs need: Unfinished, Due. Assumes nothing.
pub mod Unfinished
pub mod Due

-- What other crates cite, and what the functions' proofs need: Choices. Assumes nothing.
pub mod Choices

-- Facts has what the functions' proofs need. Assumes nothing.
pub mod Facts

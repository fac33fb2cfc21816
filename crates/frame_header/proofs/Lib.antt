-- What other crates cite: Laws. Facts has what the functions' proofs need, Examples worked examples. Assumes nothing.
pub mod Facts
pub mod Laws
pub mod Examples

-- What other crates cite: Laws, Complete (complete values). Rows and Facts have what the functions' proofs need, Examples worked examples. Assumes nothing.
pub mod Rows
pub mod Facts
pub mod Laws
pub mod Examples
pub mod Complete

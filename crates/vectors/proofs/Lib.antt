-- What other crates cite: Laws. Records and Start have what the functions' proofs need, Examples worked examples. Assumes nothing.
pub mod Records
pub mod Start
pub mod Laws
pub mod Examples

-- What other crates cite: Laws, Tables, Fronts. The others have what the functions' proofs need, Examples worked examples. Assumes nothing.
pub mod Unfinished
pub mod Tables
pub mod Positions
pub mod Groups
pub mod Lists
pub mod Fronts
pub mod Laws
pub mod Examples

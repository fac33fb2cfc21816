-- What other crates cite: Laws, Soundness (what holds of parameters that were read), Layouts, Loops. Steps, Sets and Whole have what the functions' proofs need, Examples worked examples. Assumes nothing.
pub mod Loops
pub mod Layouts
pub mod Steps
pub mod Sets
pub mod Whole
pub mod Laws
pub mod Soundness
pub mod Examples

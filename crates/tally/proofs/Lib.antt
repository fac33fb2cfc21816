-- What other crates cite: Sums (what the counts of an accepted packet add up to). Kept has what the functions' proofs need. Assumes nothing.
pub mod Kept
pub mod Sums

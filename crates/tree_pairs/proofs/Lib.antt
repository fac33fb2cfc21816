-- Entries, Windows, Halves and Pairs have what the proofs of this crate need. Assumes nothing.
pub mod Entries
pub mod Windows
pub mod Halves
pub mod Pairs

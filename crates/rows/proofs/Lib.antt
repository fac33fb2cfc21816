-- What other crates cite: Facts, of lists in turn; Twice, rows that are turned over twice are as they were. Assumes nothing.
pub mod Facts
pub mod Twice

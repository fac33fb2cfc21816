-- What other crates cite: Answers. Loads has what the proof of `load_tree` needs. Assumes nothing.
pub mod Loads
pub mod Answers

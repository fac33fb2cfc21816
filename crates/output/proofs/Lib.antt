-- What other crates cite: Splices, of bytes written one after the other. Assumes nothing.
pub mod Splices

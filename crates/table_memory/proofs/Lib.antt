-- What other crates cite: GenuineLaws. Bits, KeptLaws and Steps have what it and the functions' proofs need. Assumes nothing.
pub mod Bits
pub mod KeptLaws
pub mod GenuineLaws
pub mod Steps

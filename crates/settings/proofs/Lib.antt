-- What other crates cite: Exactly, the theorems of settings texts; Readings, what a text says. Lines serves the functions. Assumes nothing.
pub mod Readings
pub mod Lines
pub mod Exactly
pub mod Examples

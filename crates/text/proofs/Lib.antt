-- What other crates cite: Decimals, a number that was written is read; Texts, texts that are the same. Steps has how the loops go. Assumes nothing.
pub mod Decimals
pub mod Texts
pub mod Steps
pub mod Examples

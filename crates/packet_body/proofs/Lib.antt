-- What other crates cite: Laws, Fits (what holds of every frame that was read). Steps has what the functions' proofs need. Assumes nothing.
pub mod Laws
pub mod Fits
pub mod Steps

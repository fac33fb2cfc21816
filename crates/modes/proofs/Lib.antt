-- What other crates cite: Laws, Sent (which macro blocks send a mode), Below (every mode is below 8). Facts has what the functions' proofs need, Examples worked examples. Assumes nothing.
pub mod Facts
pub mod Laws
pub mod Sent
pub mod Below
pub mod Examples

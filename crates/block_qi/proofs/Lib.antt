-- What other crates cite: Laws, Steps. Examples: worked examples. Assumes nothing.
pub mod Steps
pub mod Laws
pub mod Examples

-- What the functions' proofs need: Facts, Edge. Examples: worked values. Assumes nothing.
pub mod Edge
pub mod Examples
pub mod Facts

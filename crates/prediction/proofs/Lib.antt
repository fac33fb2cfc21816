-- Laws: a vector that is whole fetches once, and worked examples. Facts and Nearby have what the functions' proofs need. Assumes nothing.
pub mod Facts
pub mod Nearby
pub mod Laws

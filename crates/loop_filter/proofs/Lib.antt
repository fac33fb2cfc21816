-- What the functions' proofs need: Facts, Frame, Zero. Assumes nothing.
pub mod Facts
pub mod Frame
pub mod Zero

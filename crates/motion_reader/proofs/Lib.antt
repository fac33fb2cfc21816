-- What the functions' proofs need: Components, of a component and a vector; Motions, of what a macro block sends. Assumes nothing.
pub mod Components
pub mod Motions

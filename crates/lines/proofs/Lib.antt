-- Low16: what is cut to 16 bits at the end may be cut before, and a product's upper half by a smaller factor. Assumes nothing.
pub mod Low16

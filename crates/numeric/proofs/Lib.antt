-- The laws of signed numbers, which the proofs of the other crates cite.
-- Magnitude: how large a sum, a difference, a product, a shift, a quotient can be, and that it fits its width.
-- Known: what a local's bits stand for, operation by operation. Most proofs about signed code are made of it.
-- Linear: equations and tests of integers, by `omega`.
-- CutLaws, RoundLaws, ClampLaws, SignLaws: the laws of this crate's own definitions.
-- Examples: worked examples.
pub mod Magnitude
pub mod Known
pub mod Linear
pub mod CutLaws
pub mod RoundLaws
pub mod ClampLaws
pub mod SignLaws
pub mod Examples

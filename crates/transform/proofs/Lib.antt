-- Sweep: a loop that goes over a list from the front and changes each number.
-- Filled: a list that is filled.
-- Zeros: a line of zeros, and zeros from a place on.
-- Rows: rows from the columns of a turned block.
-- Examples: worked examples.
pub mod Sweep
pub mod Filled
pub mod Zeros
pub mod Rows
pub mod Examples

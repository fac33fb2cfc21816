-- Rows: a row of which no block is coded.
-- Examples: worked examples.
pub mod Rows
pub mod Examples

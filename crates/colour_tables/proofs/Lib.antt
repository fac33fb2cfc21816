-- Nearest: entry_nearest (each entry of a table is a nearest integer to its rule). Tables: luma_nearest .. (the same of the code's tables). Parts: what the functions' proofs need.
pub mod Nearest
pub mod Tables
pub mod Parts

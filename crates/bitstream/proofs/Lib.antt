-- What other crates cite: Fields, Numbers, Bytes (what a field is), Laws, Spends and Inside (the laws of every reader), Unary, Loops, Ends (what answers say), Lists, ListLaws, Table. Examples: worked examples. Assumes nothing.
pub mod Numbers
pub mod Bytes
pub mod Fields
pub mod Laws
pub mod Spends
pub mod Inside
pub mod Unary
pub mod Loops
pub mod Ends
pub mod Examples
pub mod Lists
pub mod ListLaws
pub mod Table
pub mod Clauses

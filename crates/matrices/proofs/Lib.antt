pub mod Borders
pub mod Values
pub mod Matrices
pub mod All

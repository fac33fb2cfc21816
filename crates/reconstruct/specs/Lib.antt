pub mod Picture
pub mod Lent

pub mod Pixel
pub mod Exact
pub mod Picture
pub mod Sums

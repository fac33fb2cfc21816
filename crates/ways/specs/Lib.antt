pub mod Loops
pub mod Raster
pub mod Ways
pub mod Corner

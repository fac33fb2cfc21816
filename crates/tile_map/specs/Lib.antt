pub mod Tiles
pub mod Quiet

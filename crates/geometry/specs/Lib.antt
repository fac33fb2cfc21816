pub mod Sizes
pub mod Order
pub mod Rank
pub mod Square
pub mod Frame
pub mod Raster
pub mod Macro
pub mod Sample

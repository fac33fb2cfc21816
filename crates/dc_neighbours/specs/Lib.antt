pub mod Neighbours
pub mod Block
pub use Rattle.dc_means.specs.Means

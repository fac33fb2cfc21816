pub mod Identification
pub mod Fits
pub mod Sizes
pub use Rattle.header_groups.specs.Judgement

-- Bands: what a band says of its blocks.
pub mod Bands

pub mod Long
pub mod Frames
pub mod Films
pub mod Examples

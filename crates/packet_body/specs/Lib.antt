pub mod Frame
pub mod Work

pub mod Parameters
pub mod Layout
pub mod Answer
pub mod Sound

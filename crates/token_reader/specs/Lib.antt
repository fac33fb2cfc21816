pub mod Reader
pub mod Answer

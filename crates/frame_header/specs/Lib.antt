pub mod Header
pub mod Answer

pub mod BlockQi
pub mod Answer

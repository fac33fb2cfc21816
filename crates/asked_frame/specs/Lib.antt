pub mod Answer
pub mod Next

pub mod Token
pub mod Answer

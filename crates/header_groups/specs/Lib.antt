pub mod Judgement
pub mod Groups

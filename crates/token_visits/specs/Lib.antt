pub mod Visits
pub mod Answer

pub mod FoundLaws
pub mod OrderLaws

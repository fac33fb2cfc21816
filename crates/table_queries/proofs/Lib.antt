pub mod SetupLaws
pub mod RangeLaws

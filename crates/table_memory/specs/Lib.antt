pub mod Kept
pub mod Genuine

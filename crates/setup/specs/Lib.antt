pub mod Header
pub mod Table
pub mod Loaded

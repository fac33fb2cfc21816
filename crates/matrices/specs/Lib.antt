pub mod Matrix
pub mod All

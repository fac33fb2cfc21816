pub mod Table
pub mod Promised

pub mod Held
pub mod Readable
pub mod Places
pub mod Counted

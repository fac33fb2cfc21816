pub mod Steps
pub mod Laws
pub mod Calls
pub mod Held

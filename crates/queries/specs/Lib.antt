pub mod Found
pub mod Orders

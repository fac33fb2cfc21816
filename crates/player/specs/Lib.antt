pub mod Hash
pub mod HandOn

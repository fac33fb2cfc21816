pub mod Filter
pub mod Edge

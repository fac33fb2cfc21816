-- What other crates cite: Spreads. Left has what a lookup needs of the way to each node. Assumes nothing.
pub mod Left
pub mod Spreads

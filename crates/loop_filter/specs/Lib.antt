pub mod Plane
pub use Rattle.edge_filter.specs.Filter
pub use Rattle.block_edges.specs.Flags

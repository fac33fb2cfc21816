pub mod Vectors
pub mod Memory
pub mod Start
pub use Rattle.motion_reader.specs.Component
pub use Rattle.motion_reader.specs.Motion

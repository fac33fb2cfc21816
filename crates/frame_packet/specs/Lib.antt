pub mod Work
pub use Rattle.packet_body.specs.Frame

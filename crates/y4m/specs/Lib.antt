pub mod Stream
pub mod Film

pub mod Tests
pub mod Frame

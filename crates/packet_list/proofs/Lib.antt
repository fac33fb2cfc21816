pub mod Walk
pub mod Cut

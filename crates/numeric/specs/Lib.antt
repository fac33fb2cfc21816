pub mod Cut
pub mod Divide
pub mod Clamp
pub mod Sign

pub mod Decimal
pub mod Same

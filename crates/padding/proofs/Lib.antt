-- Padding: padding_holds. Assumes nothing.
pub mod Padding

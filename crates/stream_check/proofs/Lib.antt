-- Differences: the first place at which two lists differ. Onward: what was compared, part by part. Planes: the planes of a frame. Header: its line.
pub mod Differences
pub mod Onward
pub mod Planes
pub mod Header

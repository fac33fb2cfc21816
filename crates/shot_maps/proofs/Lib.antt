-- Fits: the tests of settings and maps. Parts: lists of parts. Maps: one packet more. Each: each map by itself, and maps that are cut.
pub mod Fits
pub mod Parts
pub mod Maps
pub mod Each

-- A module for each crate whose calls are spoken of. Exactly, Texts: what the readers of streams and of settings texts accept. RecordingHeaders: refused by 1 to 7.
pub mod Y4m
pub mod Exactly
pub mod Settings
pub mod Texts
pub mod Setup
pub mod Queries
pub mod TableQueries
pub mod Theora
pub mod Shot
pub mod Rgb
pub mod RecordingHeaders

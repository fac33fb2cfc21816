-- Steps: one packet more. Watching: all of them, one after the other.
pub mod Steps
pub mod Watching

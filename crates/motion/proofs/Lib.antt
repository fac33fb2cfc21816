-- Kept: the modes that send nothing, and how a record starts. LastRead: what FOUR keeps. Assumes nothing.
pub mod Kept
pub mod LastRead

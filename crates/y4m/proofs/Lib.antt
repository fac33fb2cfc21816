-- What other crates cite: Streams, the theorems of streams; Sessions, numbers that fit are those of a session. The rest serves the functions. Assumes nothing.
pub mod Fitting
pub mod HeaderLaws
pub mod FrameLaws
pub mod Sessions
pub mod Looks
pub mod Calls
pub mod Streams
pub mod Examples

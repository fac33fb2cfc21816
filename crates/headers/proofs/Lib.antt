-- What other crates cite: Judged, Fitting. Groups, Accepted and Ends have the laws of the identification header, Examples worked examples. Assumes nothing.
pub mod Groups
pub mod Fitting
pub mod Accepted
pub mod Examples
pub mod Ends
pub use Rattle.header_groups.proofs.Judged

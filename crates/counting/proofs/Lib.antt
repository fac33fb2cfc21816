-- What other crates cite: Sums (what the counts of a frame add up to), of Laws `same-counts`. Laws and Planes have what the functions' proofs need, Examples a worked example. Assumes nothing.
pub mod Laws
pub mod Planes
pub mod Sums
pub mod Examples

-- What other crates cite: Laws (of one token), Ways (how reading one can go), Lookups (which lookups there are). Entries has what the functions' proofs need. Assumes nothing.
pub mod Ways
pub mod Laws
pub mod Lookups
pub mod Entries

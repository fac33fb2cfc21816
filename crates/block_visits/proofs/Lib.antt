-- What other crates cite, and what the functions' proofs need: Ways (of a visit). Assumes nothing.
pub mod Ways

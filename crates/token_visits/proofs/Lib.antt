-- What other crates cite: Ways (of a pass), Goes (what visits and passes do to the state), Laws. Due has what the functions' proofs need. Assumes nothing.
pub mod Ways
pub mod Goes
pub mod Due
pub mod Laws

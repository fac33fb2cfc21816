-- What other crates cite, and what the walk needs: Walks. Assumes nothing.
pub mod Walks

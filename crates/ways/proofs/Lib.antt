-- What other crates cite: Agree (the two ways make the same frame), Kept (what the loop filter leaves alone), Corner, Steps, Where. Members has what they need, Example a worked example. Assumes nothing.
pub mod Example
pub mod Members
pub mod Steps
pub mod Where
pub mod Agree
pub mod Corner
pub mod Kept

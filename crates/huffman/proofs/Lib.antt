-- What other crates cite: Trees, Codes, Nodes, Answers, and Grows for the steps of a tree. Two has what the proof of `grow` needs, Examples worked examples. Assumes nothing.
pub mod Trees
pub mod Two
pub mod Grows
pub mod Nodes
pub mod Codes
pub mod Answers
pub mod Examples

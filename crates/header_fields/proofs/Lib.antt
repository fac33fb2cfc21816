-- Answers: what the answer of a judged field says. Assumes nothing.
pub mod Answers

-- Judged: the laws of what every header begins with. Assumes nothing.
pub mod Judged

-- HandOn: what is handed on after a frame of each kind. Assumes nothing.
pub mod HandOn

-- Recording: what a recording adds to the report. Inner: what the functions ask and answer.
pub mod Recording
pub mod Inner

-- Report: the numbers of a report, and what is added to them. Running: a report that is being added to. Answer: what a census answers.
pub mod Report
pub mod Running
pub mod Answer

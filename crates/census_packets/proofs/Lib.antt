-- Adds: what a packet adds. Headers: the first three packets. Numbers: by what a recording is refused. Rules: its frame packets, by the lengths that are lent.
pub mod Adds
pub mod Headers
pub mod Numbers
pub mod Rules

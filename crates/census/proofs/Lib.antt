-- Loop: the frame packets, one after the other. Steps: the headers, the lengths and the report. Scratch: what becomes zero, and the whole call.
pub mod Loop
pub mod Steps
pub mod Scratch

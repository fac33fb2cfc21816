-- Turns: a shot is a list of frame calls. Claims: cutting, 16, padding. Alone: without references. Examples: nine packets.
pub mod Turns
pub mod Claims
pub mod Alone
pub mod Examples

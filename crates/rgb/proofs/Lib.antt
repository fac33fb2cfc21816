-- What a reader cites:
--   Tenths: red_tenths, green_tenths, blue_tenths (within 6/10 before clamping). Clamped: clamped_closer, red_clamped .. (and after it)
--   PositivePart: clamp_high, clamp_part (the clamp by one bound after the other)
--   Rows: picture_length, sample_lies (the samples are those of the specification). Examples: the worked examples
pub mod Bound
pub mod Tenths
pub mod Clamped
pub mod PositivePart
pub mod Facts
pub mod Rows
pub mod Calls
pub mod Examples

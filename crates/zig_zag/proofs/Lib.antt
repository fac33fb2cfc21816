-- ZigZag: the zig-zag order is a permutation, and its inverse.
-- Turned: a block whose rows are columns.
-- Placed: values that are put to their places in zig-zag order.
pub mod ZigZag
pub mod Turned
pub mod Placed

-- Play: packets that are applied in order. Inner: what the functions of the loop ask and promise.
pub mod Play
pub mod Inner

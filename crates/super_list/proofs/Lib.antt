-- Listing: block by block in coded order. Whole: the walk through a whole super block. Assumes nothing.
pub mod Whole
pub mod Listing

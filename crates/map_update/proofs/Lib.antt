-- Maps: what settings that fit say, and the map after an accepted packet. Assumes nothing.
pub mod Maps

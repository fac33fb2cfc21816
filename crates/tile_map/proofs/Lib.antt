-- What a reader cites:
--   Said: map_length_law, byte_two (every byte is 0 or 1), differs_1 and one_differs (1 exactly if some sample of the tile differs),
--     tile_of and tile_once (each sample of the plane lies in one tile). Quiet: quiet_tile. Examples: the worked examples
pub mod Some
pub mod Strips
pub mod Planes
pub mod Said
pub mod Quiet
pub mod Examples

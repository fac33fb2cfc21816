-- What other crates cite:
--   SizeLaws: blocks_each_law (6, 8, 12 to a macro block), sizes_small (bounds), before_planes, before_next (the planes in the buffer)
--   PlaneOrders: block_order_law, macro_order (each place of a plane once: EachOnce)
--   FrameLaws: frame_length, frame_there, frame-back, frame_once (each block of the frame once)
--   SuperBlockLaws: frame_flat (the order is one super block after the other), super_end
--   MacroLaws: in_macro (a block and its macro block), frame_of_macro, element_in_frame, luma_macro (luma block i: macro block i / 4)
--   RasterLaws: raster_number_below, block_at_number, number_of_block (raster numbers, both ways). Grids: something for each column and row
--   SampleLaws: sample_below, sample_once, sample_hit; plane_below, plane_once, plane_hit for one plane
--   Raster: rows of w one after the other. Lists, Sums: lists in turn and their lengths
--   Examples: the worked examples
pub mod Tests
pub mod Products
pub mod Raster
pub mod Lists
pub mod Sums
pub mod SizeLaws
pub mod Spots
pub mod Orders
pub mod Walks
pub mod PlaneOrders
pub mod Tables
pub mod TableLaws
pub mod Flat
pub mod LumaMacros
pub mod FrameLaws
pub mod SuperBlockLaws
pub mod MacroLaws
pub mod Grids
pub mod RasterLaws
pub mod SampleLaws
pub mod Examples

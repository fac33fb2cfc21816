-- Worked examples: a frame of one macro block in 4:2:0, with three super blocks and six blocks.
use mathlib.Core.Path.{◌≡◌, refl}
use mathlib.Core.List.{[], ◌∷◌}
use Rattle.bitstream.specs.Bits.{bit_at, number}
use Rattle.bitstream.specs.Reading.{got, refused, field, until, whole, unary}
use Rattle.runs.specs.Runs.{most, start, extra, run_length, run, next_bit, one_run, sent, bit_string}
use Rattle.geometry.specs.declared.PixelFormat.TheVariants.{Chroma420}
use Rattle.geometry.specs.Sizes.{total, super_blocks_of, blocks_before}
use Rattle.geometry.specs.Order.{in_turn, present, shifted, square, row, ordered}
use Rattle.geometry.specs.Frame.{in_plane, plane_order, frame_order, super_blocks_before, super_block_in, super_block_of}
use Rattle.geometry.specs.Raster.{raster_number}
use Rattle.coded_flags.specs.Flags.{ones, sizes_from, super_flags, partly_blocks, spread, inter_flags}
use Rattle.coded_flags.specs.Coded.{order, flagged, coded_blocks}

-- luma is partly coded, of the rest Cb is not and Cr is fully coded; of luma's blocks the first two are coded
flags : inter_flags Chroma420 1 1 (0xA0 ∷ 0xA8 ∷ []) 0 ≡ got (1 ∷ 1 ∷ 0 ∷ 0 ∷ 0 ∷ 1 ∷ []) 13
unfolding inter_flags super_flags sizes_from partly_blocks spread ones super_block_of super_block_in super_blocks_before super_blocks_of blocks_before total in_plane square present shifted bit_string sent until one_run next_bit run run_length whole unary most extra start field number bit_at
flags = refl

-- no super block partly coded, none of the rest fully: nothing is read of the third string
nothing : inter_flags Chroma420 1 1 (0x55 ∷ []) 0 ≡ got (0 ∷ 0 ∷ 0 ∷ 0 ∷ 0 ∷ 0 ∷ []) 8
unfolding inter_flags super_flags sizes_from partly_blocks spread ones super_block_of super_block_in super_blocks_before super_blocks_of blocks_before total in_plane square present shifted bit_string sent until one_run next_bit run run_length whole unary most extra start field number bit_at
nothing = refl

-- the third string passes the blocks of the partly coded super block: 12 at its run
past : inter_flags Chroma420 1 1 (0xA0 ∷ 0xF0 ∷ []) 0 ≡ refused 12 9
unfolding inter_flags super_flags sizes_from partly_blocks spread ones super_block_of super_block_in super_blocks_before super_blocks_of blocks_before total in_plane square present shifted bit_string sent until one_run next_bit run run_length whole unary most extra start field number bit_at
past = refl

-- coded order is not raster order
in_order : order Chroma420 1 1 ≡ 0 ∷ 1 ∷ 3 ∷ 2 ∷ 4 ∷ 5 ∷ []
unfolding order raster_number frame_order plane_order in_plane in_turn ordered row square present shifted blocks_before total
in_order = refl

coded : coded_blocks Chroma420 1 1 (0 ∷ 1 ∷ 1 ∷ 0 ∷ 0 ∷ 1 ∷ []) ≡ 1 ∷ 3 ∷ 5 ∷ []
unfolding coded_blocks flagged order raster_number frame_order plane_order in_plane in_turn ordered row square present shifted blocks_before total
coded = refl

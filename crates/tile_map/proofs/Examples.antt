-- Worked examples, by computation. Assumes nothing.
use mathlib.Core.Path.{◌≡◌, refl}
use mathlib.Core.List.{[], ◌∷◌}
use lib.ListN.{replicate, set}
use Rattle.bitstream.specs.Lists.{tabulated}
use Rattle.geometry.specs.declared.PixelFormat.TheVariants.{Chroma420}
use Rattle.geometry.specs.Order.{in_turn}
use Rattle.tile_map.specs.Tiles.{some, differ, changed_in, strip_map, plane_map, map_length}

-- planes of 3 by 2 blocks (Cb of 4:2:0, 3 by 2 macro blocks), tile 32: one partial tile
one_partial : map_length Chroma420 3 2 1 32 ≡ 1
unfolding map_length
one_partial = refl

-- 6 by 4 blocks of luma, tile 32: 2 by 1 tiles, the right one two blocks wide, both four high
two_wide : map_length Chroma420 3 2 0 32 ≡ 2
unfolding map_length
two_wide = refl

-- tile 8: as many bytes as blocks
as_blocks : map_length Chroma420 5 3 0 8 ≡ 60
unfolding map_length
as_blocks = refl

-- 5 by 3 blocks, tile 16: 3 by 2 tiles
three_by_two : map_length Chroma420 5 3 2 16 ≡ 6
unfolding map_length
three_by_two = refl

-- a plane of 5 rows of 5 samples with tiles of 2 by 2: a change in the last column of row 2, in the partial tile at the right of the second row of tiles
last_column : plane_map 0 5 5 2 (replicate 25 7) (set (replicate 25 7) 14 8) ≡ 0 ∷ 0 ∷ 0 ∷ 0 ∷ 0 ∷ 1 ∷ 0 ∷ 0 ∷ 0 ∷ []
unfolding plane_map strip_map changed_in differ some in_turn tabulated
last_column = refl

-- and in the first sample of the uppermost row, alone in the partial tiles at the top
top_row : plane_map 0 5 5 2 (replicate 25 7) (set (replicate 25 7) 20 8) ≡ 0 ∷ 0 ∷ 0 ∷ 0 ∷ 0 ∷ 0 ∷ 1 ∷ 0 ∷ 0 ∷ []
unfolding plane_map strip_map changed_in differ some in_turn tabulated
top_row = refl

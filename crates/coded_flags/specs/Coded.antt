-- The coded blocks by their raster numbers, and the records of all blocks.
use Rattle.std.specs.Prelude.{ℕ, List, [], ◌∷◌, map, eqb, take, set, replicate}
use Rattle.bitstream.specs.Reading.{choose}
use Rattle.geometry.specs.declared.PixelFormat.{PixelFormat}
use Rattle.geometry.specs.Sizes.{plane_blocks, blocks_of}
use Rattle.geometry.specs.Frame.{frame_order}
use Rattle.geometry.specs.Raster.{raster_number}
use Rattle.block_record.specs.declared.BlockRecord.{BlockRecord}
use Rattle.block_record.specs.Record.{uncoded, now_coded}
use Rattle.coded_flags.specs.Flags.{ones}

-- the raster numbers of all blocks, in coded order
unfoldable pub order : PixelFormat → ℕ → ℕ → List ℕ
order f w h = map (raster_number f w h) (frame_order f w h)

-- those whose flag is 1
unfoldable pub flagged : List ℕ → List ℕ → List ℕ
flagged [] flags = []
flagged (b ∷ bs) [] = []
flagged (b ∷ bs) (g ∷ flags) = choose (eqb g 1) (b ∷ flagged bs flags) (flagged bs flags)

-- the coded blocks, in coded order
unfoldable pub coded_blocks : PixelFormat → ℕ → ℕ → List ℕ → List ℕ
coded_blocks f w h flags = flagged (order f w h) flags

-- how many of them are luma blocks: luma is first in coded order
unfoldable pub coded_luma : PixelFormat → ℕ → ℕ → List ℕ → ℕ
coded_luma f w h flags = ones (take (plane_blocks f w h 0) flags)

-- a value at each of some places of a list
unfoldable pub set_at : {A : Type 0} → A → List ℕ → List A → List A
set_at v [] l = l
set_at v (n ∷ ns) l = set_at v ns (set l n v)

-- the records by raster number
unfoldable pub coded_records : PixelFormat → ℕ → ℕ → List ℕ → List BlockRecord
coded_records f w h flags = set_at now_coded (coded_blocks f w h flags) (replicate (blocks_of f w h) uncoded)

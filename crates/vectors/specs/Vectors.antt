-- The predictions of all blocks of an inter frame.
use Rattle.std.specs.Prelude.{ℕ, zero, suc, ◌+◌, List, Bool, length, get_or, set}
use Rattle.bitstream.specs.Reading.{Parse, pure, bind, choose, field, ◌>>=◌}
use Rattle.geometry.specs.declared.PixelFormat.{PixelFormat}
use Rattle.geometry.specs.declared.Place.{Place}
use Rattle.geometry.specs.Sizes.{blocks_each}
use Rattle.geometry.specs.Order.{at, coded_macros}
use Rattle.geometry.specs.Frame.{block}
use Rattle.geometry.specs.Macro.{blocks_of_macro}
use Rattle.geometry.specs.Raster.{raster_number}
use Rattle.block_record.specs.declared.Vector.{Vector}
use Rattle.block_record.specs.declared.Prediction.{Prediction}
use Rattle.block_record.specs.declared.BlockRecord.{BlockRecord}
use Rattle.block_record.specs.Record.{with_prediction, uncoded}
use Rattle.motion.specs.declared.Motion.{Motion}
use Rattle.motion_reader.specs.Motion.{motion, prediction_of}
use Rattle.motion.specs.Kept.{zero_vector}

-- the raster number of block k of macro block q: luma A, B, C, D, then Cb, then Cr
unfoldable pub number_in : PixelFormat → ℕ → ℕ → Place → ℕ → ℕ
number_in f w h q k = raster_number f w h (get_or (blocks_of_macro f q.x q.y) k (block 0 0 0))

-- whether block k is coded
unfoldable pub coded_in : PixelFormat → ℕ → ℕ → Place → List BlockRecord → ℕ → Bool
coded_in f w h q rs k = (get_or rs (number_in f w h q k) uncoded).coded

-- a coded block gets its prediction; the record of one that is not coded stays
unfoldable pub predicted_at : ℕ → Prediction → List BlockRecord → List BlockRecord
predicted_at i p rs = let r = get_or rs i uncoded in set rs i (choose r.coded (with_prediction p r) r)

-- n more blocks of macro block q, from block k on
unfoldable pub predicted_from : PixelFormat → ℕ → ℕ → Place → Motion → ℕ → ℕ → List BlockRecord → List BlockRecord
predicted_from f w h q m zero k rs = rs
predicted_from f w h q m (suc n) k rs = predicted_from f w h q m n (k + 1) (predicted_at (number_in f w h q k) (prediction_of f m k) rs)

-- the records by raster number, and the vectors that are kept
pub record VectorState : Type 0 where
  pub records : List BlockRecord
  pub last : Vector
  pub last2 : Vector

-- one macro block
unfoldable pub macro_block : PixelFormat → ℕ → ℕ → ℕ → ℕ → Place → VectorState → Parse VectorState
macro_block f w h code mode q s = do
  m ← motion code mode (coded_in f w h q s.records 0) (coded_in f w h q s.records 1) (coded_in f w h q s.records 2) (coded_in f w h q s.records 3) s.last s.last2
  pure (record { records = predicted_from f w h q m.motion (blocks_each f) 0 s.records; last = m.last; last2 = m.last2 })

-- n more macro blocks in coded order, from macro block m on; modes holds the mode of each
unfoldable pub macro_blocks : PixelFormat → ℕ → ℕ → ℕ → List ℕ → ℕ → ℕ → VectorState → Parse VectorState
macro_blocks f w h code modes zero m s = pure s
macro_blocks f w h code modes (suc n) m s = bind (macro_block f w h code (get_or modes m 0) (get_or (coded_macros w h) m (at 0 0)) s) (macro_blocks f w h code modes n (m + 1))

-- "one bit: 0 variable code, 1 five bits and a sign", also where no block is coded; "last, last2 start each frame at 0"
unfoldable pub vectors : PixelFormat → ℕ → ℕ → List ℕ → List BlockRecord → Parse (List BlockRecord)
vectors f w h modes rs = do
  code ← field 1
  s ← macro_blocks f w h code modes (length modes) 0 (record { records = rs; last = zero_vector; last2 = zero_vector })
  pure s.records

-- How a macro block moves, and the vectors that are kept behind it: the modes that send nothing, and what FOUR keeps; and how a block's record starts.
use Rattle.std.specs.Prelude.{ℕ, Bool, eqb, pos}
use Rattle.bitstream.specs.Reading.{choose}
use Rattle.block_record.specs.declared.Vector.{Vector}
use Rattle.block_record.specs.declared.Prediction.TheVariants.{None, Previous, Golden}
use Rattle.motion.specs.declared.Row.{Row}
use Rattle.motion.specs.declared.Motion.{Motion}
use Rattle.motion.specs.declared.Moved.{Moved}
use Rattle.block_record.specs.declared.Prediction.{Prediction}
use Rattle.block_record.specs.declared.BlockRecord.{BlockRecord}
use Rattle.block_record.specs.Packed.{packed, unpacked}
use Rattle.block_record.specs.Record.{VectorInRange, PredictionInRange, with_prediction}
use Rattle.motion.specs.declared.Motion.TheVariants.{One, Four}

-- the vector (0, 0)
abbrev pub zero_vector : Vector
zero_vector = record { x = pos 0; y = pos 0 }

-- how a macro block moves, and what last and last2 are behind it
abbrev pub behind : Motion → Vector → Vector → Moved
behind m last last2 = record { motion = m; last = last; last2 = last2 }

-- the modes that send nothing: 1 INTRA, 3 LAST ("LAST repeats"), 4 LAST2 ("LAST2 swaps the two"), 5 GOLDEN_NOMV, 0 NOMV
unfoldable pub still : ℕ → Vector → Vector → Moved
still mode last last2 =
    choose (eqb mode 1) (behind (One None) last last2)
    (choose (eqb mode 3) (behind (One (Previous last)) last last2)
    (choose (eqb mode 4) (behind (One (Previous last2)) last2 last)
    (choose (eqb mode 5) (behind (One (Golden zero_vector)) last last2)
    (behind (One (Previous zero_vector)) last last2))))

-- "the last vector actually read, of the last coded luma block in the order A, B, C, D": b, c, d say which of the last three are coded; if none is, A is.
-- "There always is one in that mode" (laws `four_coded` of modes, `four-luma` of frame_packet)
unfoldable pub last_read : Bool → Bool → Bool → Row → Row → Vector
last_read b c d l u = choose d u.right (choose c u.left (choose b l.right l.left))

-- the prediction of mode 0, NOMV
abbrev pub unmoved : Prediction
unmoved = Previous zero_vector

-- the record of a coded block with the prediction p; that of another block stays
abbrev pub predicted_as : Prediction → BlockRecord → BlockRecord
predicted_as p r = choose r.coded (with_prediction p r) r

-- how a record starts, as a number
unfoldable pub started : ℕ → ℕ
started n = packed (predicted_as unmoved (unpacked n))

-- ---- the range of a motion's vectors
pub record RowInRange (r : Row) : Type 0 where
  pub left : VectorInRange r.left
  pub right : VectorInRange r.right

abbrev pub MotionInRange : Motion → Type 0
MotionInRange (One p) = PredictionInRange p
MotionInRange (Four l u) = RowInRange l × RowInRange u

-- a motion, and the two vectors that are kept, of vectors that a frame packet can give
pub record MovedInRange (m : Moved) : Type 0 where
  pub motion : MotionInRange m.motion
  pub last : VectorInRange m.last
  pub last2 : VectorInRange m.last2

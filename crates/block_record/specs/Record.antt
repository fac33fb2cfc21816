-- What a block's record says, and the range of its numbers.
use Rattle.std.specs.Prelude.{true, false, ℕ, ◌≤◌, nat_abs}
use Rattle.block_record.specs.declared.Vector.{Vector}
use Rattle.block_record.specs.declared.Prediction.{Prediction}
use Rattle.block_record.specs.declared.Prediction.TheVariants.{None, Previous, Golden}
use Rattle.block_record.specs.declared.BlockRecord.{BlockRecord}

-- the vectors that a frame packet can give
pub record VectorInRange (v : Vector) : Type 0 where
  pub x : nat_abs v.x ≤ 31
  pub y : nat_abs v.y ≤ 31

abbrev pub PredictionInRange : Prediction → Type 0
PredictionInRange None = Unit
PredictionInRange (Previous v) = VectorInRange v
PredictionInRange (Golden v) = VectorInRange v

-- a frame has at most three qi
pub record InRange (r : BlockRecord) : Type 0 where
  pub qi_index : r.qi_index ≤ 2
  pub prediction : PredictionInRange r.prediction

-- "none, previous with a vector, or golden with a vector", by number
unfoldable pub reference_of : Prediction → ℕ
reference_of None = 0
reference_of (Previous v) = 1
reference_of (Golden v) = 2

abbrev pub with_prediction : Prediction → BlockRecord → BlockRecord
with_prediction p r = record { coded = r.coded; qi_index = r.qi_index; prediction = p }

abbrev pub with_qi_index : ℕ → BlockRecord → BlockRecord
with_qi_index k r = record { coded = r.coded; qi_index = k; prediction = r.prediction }

-- a block that is not coded
abbrev pub uncoded : BlockRecord
uncoded = record { coded = false; qi_index = 0; prediction = None }

-- a coded block, of which nothing else is known yet
abbrev pub now_coded : BlockRecord
now_coded = record { coded = true; qi_index = 0; prediction = None }

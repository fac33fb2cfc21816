-- A block's record as a number. From the lowest bit: 1 bit coded flag, 2 bits qi index, 2 bits which reference, 6 bits x + 32, 6 bits y + 32.
-- Where there is no vector its bits are 0, so that the record of a block that is not coded is 0.
use Rattle.std.specs.Prelude.{Bool, true, false, cond, ℕ, ◌+◌, ◌*◌, ◌/◌, ◌%◌, eqb, ℤ, pos, ◌+ℤ◌, ◌-ℤ◌, nat_abs}
use Rattle.block_record.specs.declared.Vector.{Vector}
use Rattle.block_record.specs.declared.Prediction.{Prediction}
use Rattle.block_record.specs.declared.Prediction.TheVariants.{None, Previous, Golden}
use Rattle.block_record.specs.declared.BlockRecord.{BlockRecord}

-- a component, from -32 to 31, and back
abbrev pub biased : ℤ → ℕ
biased z = nat_abs (z +ℤ pos 32)

abbrev pub unbiased : ℕ → ℤ
unbiased n = pos n -ℤ pos 32

-- a vector, x in the lower 6 bits, and back
unfoldable pub vector_number : Vector → ℕ
vector_number v = biased v.x + biased v.y * 64

unfoldable pub vector_at : ℕ → Vector
vector_at n = record { x = unbiased (n % 64); y = unbiased (n / 64 % 64) }

-- which reference, in the lowest 2 bits, with its vector, and back
unfoldable pub prediction_number : Prediction → ℕ
prediction_number None = 0
prediction_number (Previous v) = vector_number v * 4 + 1
prediction_number (Golden v) = vector_number v * 4 + 2

unfoldable pub prediction_at : ℕ → Prediction
prediction_at n = cond (eqb (n % 4) 0) None (cond (eqb (n % 4) 1) (Previous (vector_at (n / 4))) (Golden (vector_at (n / 4))))

-- the bit of the coded flag
abbrev pub flag : Bool → ℕ
flag true = 1
flag false = 0

-- the whole record, and back
unfoldable pub packed : BlockRecord → ℕ
packed r = prediction_number r.prediction * 8 + r.qi_index * 2 + flag r.coded

unfoldable pub unpacked : ℕ → BlockRecord
unpacked n = record { coded = eqb (n % 2) 1; qi_index = n / 2 % 4; prediction = prediction_at (n / 8) }

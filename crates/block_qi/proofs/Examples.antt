-- Worked examples: four blocks, of which 0, 2 and 3 are coded.
use Prim.Native.Nat.{ℕ}
use mathlib.Core.Path.{◌≡◌, refl}
use mathlib.Core.List.{List, [], ◌∷◌}
use mathlib.Core.Bool.{true}
use Rattle.bitstream.specs.Bits.{bit_at, number}
use Rattle.bitstream.specs.Reading.{got, refused, field, until, whole, unary}
use Rattle.runs.specs.Runs.{most, start, extra, run_length, run, next_bit, one_run, sent, bit_string}
use Rattle.block_record.specs.declared.BlockRecord.{BlockRecord}
use Rattle.block_record.specs.declared.Prediction.TheVariants.{None}
use Rattle.block_record.specs.Record.{uncoded}
use Rattle.block_qi.specs.BlockQi.{at_step, raised, one_step, qi_steps, block_qi}

abbrev with : ℕ → BlockRecord
with k = record { coded = true; qi_index = k; prediction = None }

abbrev four : List BlockRecord
four = with 0 ∷ uncoded ∷ with 0 ∷ with 0 ∷ []

-- one qi: nothing is read
one : block_qi 1 (0 ∷ 3 ∷ 2 ∷ []) four [] 0 ≡ got four 0
unfolding block_qi qi_steps one_step at_step raised
one = refl

-- 0 1 1: block 0 stays, blocks 3 and 2 are raised to 1; then 1 0: block 3 is raised to 2, block 2 stays
three : block_qi 3 (0 ∷ 3 ∷ 2 ∷ []) four (0x24 ∷ []) 0 ≡ got (with 0 ∷ uncoded ∷ with 1 ∷ with 2 ∷ []) 8
unfolding block_qi qi_steps one_step at_step raised bit_string sent until one_run next_bit run run_length whole unary most extra start field number bit_at
three = refl

-- the second string is for two blocks alone: a run of three is 12 at its prefix
past : block_qi 3 (0 ∷ 3 ∷ 2 ∷ []) four (0x26 ∷ 0x80 ∷ []) 0 ≡ refused 12 6
unfolding block_qi qi_steps one_step at_step raised bit_string sent until one_run next_bit run run_length whole unary most extra start field number bit_at
past = refl

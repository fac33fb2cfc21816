-- Worked examples of strings.
use Prim.Native.Nat.{ℕ}
use mathlib.Core.Path.{◌≡◌, refl}
use mathlib.Core.List.{List, [], ◌∷◌}
use lib.ListN.{replicate}
use Rattle.bitstream.specs.Bits.{bit_at, number}
use Rattle.bitstream.specs.Reading.{got, refused, field, until, whole, unary}
use Rattle.runs.specs.declared.RunCode.TheVariants.{Long, Short}
use Rattle.runs.specs.Runs.{most, start, extra, run_length, run, next_bit, one_run, sent, bit_string}

-- the bit 1, and the run 10 with the extra bit 1
three : bit_string Long 3 (0xD0 ∷ []) 0 ≡ got (1 ∷ 1 ∷ 1 ∷ []) 4
unfolding bit_string sent until one_run next_bit run run_length whole unary most extra start field number bit_at
three = refl

-- the same bits as a short run: 10 with the extra bit 1 is 4, one bit too many: 12 at the run's prefix
past : bit_string Short 3 (0xD0 ∷ []) 0 ≡ refused 12 1
unfolding bit_string sent until one_run next_bit run run_length whole unary most extra start field number bit_at
past = refl

-- no bits wanted: nothing is read
none : bit_string Long 0 [] 0 ≡ got [] 0
unfolding bit_string sent until one_run next_bit run run_length whole unary most extra start field number bit_at
none = refl

-- a run that is cut is reported at its prefix
cut : bit_string Long 40 (0xFF ∷ []) 0 ≡ refused 4 1
unfolding bit_string sent until one_run next_bit run run_length whole unary most extra start field number bit_at
cut = refl

-- after a run of 4129 the bit is read again
again : bit_string Long 4130 (0xFF ∷ 0xFF ∷ 0xF0 ∷ []) 0 ≡ got (replicate 4130 1) 21
unfolding bit_string sent until one_run next_bit run run_length whole unary most extra start field number bit_at
again = refl

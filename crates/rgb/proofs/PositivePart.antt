-- `clamp255` by one bound after the other: a number's positive part, and then what is above 255. Laws that stood in `numeric` ClampLaws while `clamp_to_byte` was written so.
-- Assumes nothing.
use mathlib.Core.Path.{◌≡◌, refl, subst}
use mathlib.Core.Bool.{true, false}
use Prim.Native.Nat.{ℕ, ◌≤◌, ◌<◌}
use native.Mathlib.Omega.{arith}
use borrow.Author.Tests.{ltb-true}
use lib.Dec.{T}
use lib.IntN.{ℤ, pos, negsuc, nat_abs}
use lib.Signed.{lt_z}
use Rattle.numeric.specs.Clamp.{clamp255}

-- a number, or 0 where it is negative
unfoldable pub positive_part : ℤ → ℕ
positive_part (pos n) = n
positive_part (negsuc n) = 0

pub part_low : (z : ℤ) → lt_z z (pos 0) ≡ true → 0 ≡ positive_part z
unfolding positive_part
part_low (pos n) e = absurd (let h = ltb-true n 0 e in omega arith)
part_low (negsuc n) e = refl

pub part_same : (z : ℤ) → lt_z z (pos 0) ≡ false → nat_abs z ≡ positive_part z
unfolding positive_part
part_same (pos n) e = refl
part_same (negsuc n) e = absurd (subst T e tt)

pub clamp_high : (z : ℤ) → 255 < positive_part z → 255 ≡ clamp255 z
unfolding clamp255 positive_part
clamp_high (pos n) h = omega arith
clamp_high (negsuc n) h = absurd (omega arith)

pub clamp_part : (z : ℤ) → positive_part z ≤ 255 → positive_part z ≡ clamp255 z
unfolding clamp255 positive_part
clamp_part (pos n) h = omega arith
clamp_part (negsuc n) h = refl

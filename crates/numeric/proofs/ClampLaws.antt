-- Laws of `clamp255`: a number in its range, and how two bounds give it.
-- Assumes nothing.
use Rattle.std.proofs.Common.{◌≡◌, ℕ, ◌≤◌, ℤ, pos, negsuc, nat_abs, arith, refl}
use Rattle.std.specs.Int.{int_max, int_min}
use Rattle.numeric.specs.Clamp.{clamp255}

-- a number in the range is itself
pub clamp_same : (n : ℕ) → n ≤ 255 → clamp255 (pos n) ≡ n
unfolding clamp255
clamp_same n h = omega arith

pub clamp_between : (z : ℤ) → nat_abs (int_max (pos 0) (int_min z (pos 255))) ≡ clamp255 z
unfolding clamp255
clamp_between (pos n) = grind arith
clamp_between (negsuc n) = refl

-- A residual brought near 0 gives the same sums; and where a number lies.
-- Assumes nothing.
use mathlib.Core.Path.{◌≡◌}
use Prim.Native.Nat.{ℕ, ◌-◌, ◌≤◌}
use native.Mathlib.Omega.{arith}
use lib.IntN.{ℤ, pos, negsuc, sub_ℕ, ◌+ℤ◌}
use Rattle.numeric.specs.Clamp.{clamp255}
use Rattle.numeric.proofs.Magnitude.{sub_cases}
use Rattle.std.specs.Int.{int_max, int_min}

clamp_sub : (p k : ℕ) → p ≤ 255 → clamp255 (sub_ℕ p k) ≡ p - k
unfolding clamp255
clamp_sub p k h = sub_cases (λ (z : ℤ). clamp255 z ≡ p - k) p k (λ l. omega arith) (λ l. omega arith)

pub sum_near : (p : ℕ) (z : ℤ) → p ≤ 255 → clamp255 (pos p +ℤ int_max (negsuc 254) (int_min z (pos 255))) ≡ clamp255 (pos p +ℤ z)
unfolding clamp255
sum_near p (pos n) h = grind arith
sum_near p (negsuc n) h = grind arith

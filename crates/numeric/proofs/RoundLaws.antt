-- Laws of `roundOver`, over the divisor: how a division toward zero computes it, and its bound.
-- Assumes nothing.
use mathlib.Core.Path.{◌≡◌, refl, sym, ap, ◌∙◌, subst}
use mathlib.Core.Bool.{true, false}
use Prim.Native.Nat.{ℕ, zero, suc, ◌+◌, ◌*◌, ◌/◌, ◌≤◌, ◌<◌}
use native.Mathlib.Nat.{le_of_eq, le_trans, zero-div, suc-mul, mul_assoc, div-lt_iff_lt-mul, div-mul-le_self, le_of_suc-le-suc}
use native.Mathlib.Omega.{arith}
use borrow.Author.Tests.{ltb-true}
use lib.Dec.{T, ltb, leb, ltb→lt, leb→le}
use lib.IntN.{ℤ, pos, negsuc, neg_ℤ, ◌+ℤ◌, ◌-ℤ◌, ◌*ℤ◌, nat_abs, neg_ℤ-neg_ℤ, neg_ℤ-+ℤ}
use lib.Signed.{lt_z, quot_z}
use Rattle.numeric.proofs.Magnitude.{Size, size, abs_neg}
use Rattle.numeric.specs.Divide.{nearest, round_over}

-- ---- half of d is added on the side of the sign, all doubled, and the quotient goes toward zero

quot_neg : (z : ℤ) (d : ℕ) → quot_z (neg_ℤ z) (pos d) ≡ neg_ℤ (quot_z z (pos d))
quot_neg (pos zero) d = rw zero-div
quot_neg (pos (suc n)) d = refl
quot_neg (negsuc n) d = sym (neg_ℤ-neg_ℤ (pos (suc n / d)))

pub round_below : (d : ℕ) (z : ℤ) → lt_z z (pos 0) ≡ true → quot_z (z *ℤ pos 2 -ℤ pos d) (pos (d * 2)) ≡ round_over d z
unfolding round_over
round_below d (pos n) e = absurd (let h = ltb-true n 0 e in omega arith)
round_below d (negsuc n) e =
    ap (λ (y : ℤ). quot_z y (pos (d * 2))) (sym (neg_ℤ-+ℤ (pos (suc n * 2)) (pos d)))
    ∙ quot_neg (pos (suc n * 2 + d)) (d * 2)

pub round_above : (d : ℕ) (z : ℤ) → lt_z z (pos 0) ≡ false → quot_z (z *ℤ pos 2 +ℤ pos d) (pos (d * 2)) ≡ round_over d z
unfolding round_over
round_above d (pos n) e = refl
round_above d (negsuc n) e = absurd (subst T e tt)

-- ---- the bound

abs_round : (d : ℕ) (z : ℤ) → nat_abs (round_over d z) ≡ nearest d (nat_abs z)
unfolding round_over
abs_round d (pos n) = refl
abs_round d (negsuc n) = abs_neg (pos (nearest d (suc n)))

-- d times the result is at most d / 2 above z in magnitude, both doubled
pub round_le : (d : ℕ) (z : ℤ) → nat_abs (round_over d z) * (d * 2) ≤ nat_abs z * 2 + d
round_le d z = rw (abs_round d z) (div-mul-le_self (nat_abs z * 2 + d) (d * 2))

halve : (a b c : ℕ) → a * 2 ≤ b * 2 + c * 2 → a ≤ b + c
halve a b c h = omega arith

-- the same of an even divisor, whose half is h, for a result r
pub round_even : (h : ℕ) (r z : ℤ) → r ≡ round_over (h * 2) z → nat_abs r * (h * 2) ≤ nat_abs z + h
round_even h r z e =
    halve (nat_abs r * (h * 2)) (nat_abs z) h
    (le_trans
    (le_of_eq (mul_assoc (nat_abs r) (h * 2) 2 ∙ ap (λ (y : ℤ). nat_abs y * (h * 2 * 2)) e))
    (round_le (h * 2) z))

nearest_le : (d b n : ℕ) → 0 < d → n ≤ b * d → nearest d n ≤ b
nearest_le d b n p h =
    let e : suc b * (d * 2) ≡ b * d * 2 + d * 2 = suc-mul b (d * 2) ∙ ap (λ (m : ℕ). m + d * 2) (sym (mul_assoc b d 2)) in
    le_of_suc-le-suc ((div-lt_iff_lt-mul (omega arith)).1 (omega arith))

-- with a bound b of the result: `size-round 4 31 h tt tt`
pub size_round : {z : ℤ} {a : ℕ} (d b : ℕ) → Size z a → T (ltb 0 d) → T (leb a (b * d)) → Size (round_over d z) b
size_round {z} {a} d b h p t =
    size (le_trans (le_of_eq (abs_round d z)) (nearest_le d b (nat_abs z) (ltb→lt 0 d p) (le_trans h.le (leb→le a (b * d) t))))

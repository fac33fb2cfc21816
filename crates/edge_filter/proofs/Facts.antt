-- The ways that f of R can go. Assumes nothing.
use mathlib.Core.Path.{◌≡◌, refl, ap, ◌∙◌, subst}
use mathlib.Core.Bool.{true, false}
use Prim.Native.Nat.{ℕ, ◌-◌, ◌*◌, ◌≤◌, ◌<◌}
use native.Mathlib.Omega.{arith}
use native.Mathlib.Decide.{dec_lt}
use borrow.Author.Tests.{lt-ltb, le-ltb, ltb-true}
use lib.Dec.{T}
use lib.IntN.{ℤ, pos, negsuc, neg_ℤ, nat_abs, ◌-ℤ◌, +ℤ_idl}
use lib.Signed.{lt_z, non_neg}
use Rattle.numeric.proofs.Magnitude.{abs_neg}
use Rattle.edge_filter.specs.Filter.{tent_of, limited_of}

module _ (L n : ℕ) where
  pub tent_low : n < L → n ≡ tent_of L n
  unfolding tent_of
  tent_low h = rw (lt-ltb n L h)

  pub tent_high : 2 * L - n ≤ n → 2 * L - n ≡ tent_of L n
  unfolding tent_of
  tent_high h = go (dec_lt n L) (dec_lt n (2 * L))
    where
      go : Dec (n < L) → Dec (n < 2 * L) → 2 * L - n ≡ tent_of L n
      go (yes l) d = absurd (omega arith)
      go (no l) (yes k) = rw (le-ltb n L (omega arith), lt-ltb n (2 * L) k)
      go (no l) (no k) = let z : 2 * L - n ≡ 0 = omega arith in rw (le-ltb n L (omega arith), le-ltb n (2 * L) (omega arith)) z

pub minus_ok : (z : ℤ) → lt_z z (pos 0) ≡ true → T (non_neg (pos 0 -ℤ z))
minus_ok (pos n) e = absurd (let h = ltb-true n 0 e in omega arith)
minus_ok (negsuc n) e = tt

pub minus_abs : (z : ℤ) → nat_abs (pos 0 -ℤ z) ≡ nat_abs z
minus_abs z = ap nat_abs (+ℤ_idl (neg_ℤ z)) ∙ abs_neg z

pub limited_minus : (L : ℕ) (z : ℤ) → lt_z z (pos 0) ≡ true → pos 0 -ℤ pos (tent_of L (nat_abs z)) ≡ limited_of L z
unfolding limited_of
limited_minus L (pos n) e = absurd (let h = ltb-true n 0 e in omega arith)
limited_minus L (negsuc n) e = +ℤ_idl _

pub limited_plus : (L : ℕ) (z : ℤ) → lt_z z (pos 0) ≡ false → pos (tent_of L (nat_abs z)) ≡ limited_of L z
unfolding limited_of
limited_plus L (pos n) e = refl
limited_plus L (negsuc n) e = absurd (subst T e tt)

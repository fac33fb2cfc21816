-- Laws of `with_sign`: by the sign, and its magnitude.
-- Assumes nothing.
use mathlib.Core.Path.{◌≡◌, refl, ◌∙◌}
use mathlib.Core.Bool.{Bool, true, false, cond}
use Prim.Native.Nat.{ℕ}
use borrow.Author.Tests.{eq-eqb, ne_eqb}
use lib.Dec.{eqb}
use lib.IntN.{pos, neg_ℤ, ◌-ℤ◌, nat_abs, +ℤ_idl}
use Rattle.numeric.specs.Sign.{with_sign}
use Rattle.numeric.proofs.Magnitude.{abs_neg}

module _ (s n : ℕ) where
  pub sign_minus : s ≡ 1 → pos 0 -ℤ pos n ≡ with_sign s n
  unfolding with_sign
  sign_minus h = +ℤ_idl (neg_ℤ (pos n)) ∙ rw (eq-eqb s 1 h)

  pub sign_plus : (s ≡ 1 → ⊥) → pos n ≡ with_sign s n
  unfolding with_sign
  sign_plus h = rw (ne_eqb s 1 h)

  pub sign_size : nat_abs (with_sign s n) ≡ n
  unfolding with_sign
  sign_size = go (eqb s 1)
    where
      go : (t : Bool) → nat_abs (cond t (neg_ℤ (pos n)) (pos n)) ≡ n
      go true = abs_neg (pos n)
      go false = refl

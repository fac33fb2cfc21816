-- Tests that antt computes, and what they say. Shut, and over `≡ true`, so that no argument has to be written.
use mathlib.Core.Path.{◌≡◌, refl, ap, ◌∙◌}
use mathlib.Core.Logic.{⊎_elim}
use mathlib.Core.Bool.{Bool, true, false}
use Prim.Native.Nat.{ℕ, zero, suc, ◌<◌}
use native.Mathlib.Nat.{eq-or-lt_of_le, le_of_suc-le-suc, not-suc-le-zero}
use native.Mathlib.Omega.{arith}

unfoldable pub both : Bool → Bool → Bool
both true b = b
both false b = false

pub both_left : (a b : Bool) → both a b ≡ true → a ≡ true
unfolding both
both_left true b e = refl
both_left false b e = e

pub both_right : (a b : Bool) → both a b ≡ true → b ≡ true
unfolding both
both_right true b e = e
both_right false b e = let z : ◌≡◌ {A = ℕ} 0 1 = cc in absurd (omega arith)

-- f at each number below n
unfoldable pub upto : ℕ → (ℕ → Bool) → Bool
upto zero f = true
upto (suc n) f = both (f n) (upto n f)

pub upto_at : (n : ℕ) (f : ℕ → Bool) → upto n f ≡ true → (k : ℕ) → k < n → f k ≡ true
unfolding upto
upto_at zero f t k h = absurd (not-suc-le-zero h)
upto_at (suc n) f t k h =
    ⊎_elim (λ (e : k ≡ n). ap f e ∙ both_left _ _ t) (λ (b : k < n). upto_at n f (both_right (f n) _ t) k b) (eq-or-lt_of_le (le_of_suc-le-suc h))

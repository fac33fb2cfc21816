-- What a check found, one law for each answer. Assumes nothing.
use Prim.Native.Nat.{ℕ}
use native.Mathlib.Omega.{arith}
use mathlib.Core.Path.{◌≡◌, refl, sym, ap, ◌∙◌}
use mathlib.Core.List.{List, [], ◌∷◌}
use lib.ListN.{length, set}
use Rattle.check_answer.specs.declared.CheckAnswer.{CheckAnswer}
use Rattle.check_answer.specs.declared.CheckAnswer.TheVariants.{Passes, Differs, Refused}
use Rattle.check_answer.specs.Found.{returned, found_by}

-- two numbers written into a list of two
pub two_set : (l : List ℕ) → length l ≡ 2 → (a b : ℕ) → set (set l 0 a) 1 b ≡ a ∷ b ∷ []
two_set [] h a b = absurd (omega arith)
two_set (x ∷ []) h a b = absurd (omega arith)
two_set (x ∷ y ∷ []) h a b = refl
two_set (x ∷ y ∷ z ∷ l) h a b = absurd (omega arith)

module _ (found : List ℕ) (h : length found ≡ 2) where
  pub found_passes : {r : CheckAnswer} → r ≡ Passes → returned 0 (set (set found 0 0) 1 0) ≡ found_by r
  found_passes e = ap (returned 0) (two_set found h 0 0) ∙ ap found_by (sym e)

  pub found_differs : {r : CheckAnswer} {n : ℕ} → r ≡ Differs n → returned 0 (set (set found 0 1) 1 n) ≡ found_by r
  found_differs {r} {n} e = ap (returned 0) (two_set found h 1 n) ∙ ap found_by (sym e)

  pub found_refused : {r : CheckAnswer} {k e : ℕ} → r ≡ Refused k e → returned k (set (set found 0 0) 1 e) ≡ found_by r
  found_refused {r} {k} {e} q = ap (returned k) (two_set found h 0 e) ∙ ap found_by (sym q)

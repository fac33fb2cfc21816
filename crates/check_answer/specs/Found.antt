-- What a check found, as numbers.
use Rattle.std.specs.Prelude.{ℕ, List, [], ◌∷◌}
use Rattle.check_answer.specs.declared.CheckAnswer.{CheckAnswer}
use Rattle.check_answer.specs.declared.CheckAnswer.TheVariants.{Passes, Differs, Refused}

-- the number that a call returns, and the list of what it found
pub record Returned : Type 0 where
  pub number : ℕ
  pub found : List ℕ

abbrev pub returned : ℕ → List ℕ → Returned
returned k found = record { number = k; found = found }

-- 0, and 0 and 0: passes. 0, and 1 and n: differs at byte n. k, and 0 and a place: refused by k
abbrev pub found_by : CheckAnswer → Returned
found_by Passes = returned 0 (0 ∷ 0 ∷ [])
found_by (Differs n) = returned 0 (1 ∷ n ∷ [])
found_by (Refused k e) = returned k (0 ∷ e ∷ [])

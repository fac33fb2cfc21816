-- The face's call, one law for each way that it goes. Assumes nothing.
use Prim.Native.Nat.{ℕ}
use mathlib.Core.Path.{◌≡◌, sym, ap, ◌∙◌}
use mathlib.Core.Bool.{Bool}
use mathlib.Core.List.{List}
use lib.ListN.{length}
use borrow.Author.Tests.{eq-eqb, ne_eqb}
use Rattle.bitstream.specs.Reading.{choose}
use Rattle.work_memory.specs.Memory.{Memory}
use Rattle.check_answer.specs.declared.CheckAnswer.{CheckAnswer}
use Rattle.vendor_check.specs.Check.{Lent, check_left, checked}
use Rattle.check_c.specs.Face.{check_gives, left_returned, untouched, check_face}
use Rattle.check_answer.specs.Found.{Returned, found_by}

module _ (header setup file : List ℕ) (l : Lent) (found : List ℕ) where
  pub check_made : length found ≡ 2 → {a : CheckAnswer} {table x y z : List ℕ} {m : Memory} {answers : List ℕ} → check_left a table x y z m answers ≡ checked header setup file l
      → {r : Returned} → r ≡ found_by a → check_gives r table x y z m answers ≡ check_face header setup file l found
  unfolding check_face
  check_made h {a} {table} {x} {y} {z} {m} {answers} e {r} er =
      ap (λ (r : Returned). check_gives r table x y z m answers) er ∙ ap left_returned e
      ∙ sym (ap (λ (b : Bool). choose b (left_returned (checked header setup file l)) (untouched found l)) (eq-eqb (length found) 2 h))

  pub check_unmade : (length found ≡ 2 → ⊥) → untouched found l ≡ check_face header setup file l found
  unfolding check_face
  check_unmade h = sym (ap (λ (b : Bool). choose b (left_returned (checked header setup file l)) (untouched found l)) (ne_eqb (length found) 2 h))

-- A whole file compared. Assumes nothing.
use Prim.Native.Nat.{ℕ, suc, ◌+◌, ◌≤◌}
use native.Mathlib.Omega.{arith}
use native.Mathlib.Nat.{zero-add}
use mathlib.Core.Path.{◌≡◌, refl, sym, ap, ◌∙◌}
use mathlib.Core.Bool.{Bool, true, false}
use mathlib.Core.List.{List, [], ◌∷◌}
use lib.Dec.{eqb, ltb}
use lib.ListN.{length}
use borrow.Author.Tests.{eqb-true, eq-eqb, ltb-false, le-ltb}
use Rattle.bitstream.specs.Reading.{choose}
use Rattle.text.specs.Same.{same}
use Rattle.text.proofs.Texts.{same_eq, same_refl}
use Rattle.stream_check.specs.declared.Compared.{Compared}
use Rattle.stream_check.specs.Compared.{difference, onward, beginning}
use Rattle.stream_check.proofs.Onward.{onward_on}
use Rattle.check_answer.specs.declared.CheckAnswer.TheVariants.{Passes, Differs}
use Rattle.vendor_check.specs.Check.{compared}
use Rattle.check_answer.specs.Said.{compared_all}

-- a list and itself
pub difference_same : (l : List ℕ) → difference l l ≡ length l
unfolding difference
difference_same [] = refl
difference_same (a ∷ l) = rw (eq-eqb a a refl) (ap suc (difference_same l))

-- lists that agree to both ends
pub difference_none : (want file : List ℕ) → length want ≤ difference want file → length file ≤ difference want file → want ≡ file
unfolding difference
difference_none [] [] h g = refl
difference_none [] (b ∷ file) h g = absurd (omega arith)
difference_none (a ∷ want) [] h g = absurd (omega arith)
difference_none (a ∷ want) (b ∷ file) h g = go (eqb a b) (difference_none want file) refl h g
  where
    go : (t : Bool) → (length want ≤ difference want file → length file ≤ difference want file → want ≡ file) → eqb a b ≡ t → suc (length want) ≤ choose t (suc (difference want file)) 0 → suc (length file) ≤ choose t (suc (difference want file)) 0 → ◌≡◌ {A = List ℕ} (a ∷ want) (b ∷ file)
    go true f e h g = let x = eqb-true a b e in let y = f (omega arith) (omega arith) in λ i. x i ∷ y i
    go false f e h g = absurd (omega arith)

module _ (want file : List ℕ) where
  abbrev d : ℕ
  d = difference want file

  abbrev left : Compared
  left = record { place = 0 + d; differs = ltb d (length want) }

  ended : compared_all left file ≡ compared want file
  ended = go (same want file) refl (ltb d (length want)) refl (ltb d (length file)) refl
    where
      to : (p q : Bool) → ltb d (length want) ≡ p → ltb d (length file) ≡ q → choose p (Differs d) (choose q (Differs d) Passes) ≡ compared_all left file
      to p q hp hq = λ i. choose (sym hp i) (Differs (sym (zero-add d) i)) (choose (sym (ap (λ (k : ℕ). ltb k (length file)) (zero-add d) ∙ hq) i) (Differs (sym (zero-add d) i)) Passes)

      go : (t : Bool) → same want file ≡ t → (p : Bool) → ltb d (length want) ≡ p → (q : Bool) → ltb d (length file) ≡ q → compared_all left file ≡ choose t Passes (Differs d)
      go true e p hp q hq =
          let l : want ≡ file = same_eq want file e in
          let k : d ≡ length file = ap (λ (w : List ℕ). difference w file) l ∙ difference_same file in
          let m : length want ≡ length file = ap (λ (w : List ℕ). length w) l in
          sym (to false false (le-ltb d (length want) (omega arith)) (le-ltb d (length file) (omega arith)))
      go false e true hp q hq = sym (to true q hp hq)
      go false e false hp true hq = sym (to false true hp hq)
      go false e false hp false hq =
          let l = difference_none want file (ltb-false d (length want) hp) (ltb-false d (length file) hq) in
          absurd (no (sym e ∙ ap (λ (w : List ℕ). same w file) l ∙ same_refl file))
        where
          no : false ≡ true → ⊥
          no h = let z : ◌≡◌ {A = ℕ} 0 1 = cc in absurd (omega arith)

  -- what was compared from the beginning on is the answer
  pub compared_whole : compared_all (onward beginning want file) file ≡ compared want file
  compared_whole = ap (λ (c : Compared). compared_all c file) (onward_on beginning want file refl) ∙ ended

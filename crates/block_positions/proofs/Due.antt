-- The blocks of a list that stand at a position: how they are gathered. Assumes nothing.
use Prim.Native.Nat.{ℕ, ◌+◌, ◌-◌, ◌≤◌, ◌<◌}
use native.Mathlib.Omega.{arith}
use native.Mathlib.Numerals.{add-one}
use native.Mathlib.Nat.{add-zero}
use mathlib.Core.Path.{◌≡◌, refl, sym, ap, ◌∙◌}
use mathlib.Core.List.{List, [], ◌∷◌, ◌++◌, append-nil}
use mathlib.Core.Bool.{Bool, true, false}
use lib.Dec.{eqb}
use lib.ListN.{length, get_or, set, take}
use lib.Seq.{take-set-le, take-suc, take-suc-set}
use borrow.Author.Tests.{eq-eqb, ne_eqb, eqb-true, eqb-false}
use Rattle.bitstream.specs.Reading.{choose}
use Rattle.block_positions.specs.Answer.{due_of, one_if_due}

-- ---- one block
module _ (k : ℕ) (ps : List ℕ) (b : ℕ) where
  pub due : (bs : List ℕ) → get_or ps b 0 ≡ k → due_of k ps (b ∷ bs) ≡ b ∷ due_of k ps bs
  unfolding due_of
  due bs h = rw (eq-eqb _ _ h)

  pub elsewhere : (bs : List ℕ) → (get_or ps b 0 ≡ k → ⊥) → due_of k ps (b ∷ bs) ≡ due_of k ps bs
  unfolding due_of
  elsewhere bs h = rw (ne_eqb _ _ h)

  -- a block stands at k or not
  pub either : {X : Type 0} → (get_or ps b 0 ≡ k → X) → ((get_or ps b 0 ≡ k → ⊥) → X) → X
  either {X} f g = go (eqb (get_or ps b 0) k) refl
    where
      go : (t : Bool) → eqb (get_or ps b 0) k ≡ t → X
      go true t = f (eqb-true _ _ t)
      go false t = g (eqb-false _ _ t)

pub due_nil : (k : ℕ) (ps : List ℕ) → due_of k ps [] ≡ []
unfolding due_of
due_nil k ps = refl

due_append : (k : ℕ) (ps bs cs : List ℕ) → due_of k ps (bs ++ cs) ≡ due_of k ps bs ++ due_of k ps cs
due_append k ps [] cs = sym (ap (λ (l : List ℕ). l ++ due_of k ps cs) (due_nil k ps))
due_append k ps (b ∷ bs) cs =
    either k ps b (λ h. due k ps b (bs ++ cs) h ∙ (ap (λ (l : List ℕ). b ∷ l) (due_append k ps bs cs) ∙ sym (ap (λ (l : List ℕ). l ++ due_of k ps cs) (due k ps b bs h))))
    (λ h. elsewhere k ps b (bs ++ cs) h ∙ (due_append k ps bs cs ∙ sym (ap (λ (l : List ℕ). l ++ due_of k ps cs) (elsewhere k ps b bs h))))

-- ---- gathering: those of the first j blocks stand in front
module _ (k : ℕ) (ps bs ds : List ℕ) (j n : ℕ) (h : j < length bs) (l : n < length ds) (i : take n ds ≡ due_of k ps (take j bs)) where
  abbrev b : ℕ
  b = get_or bs j 0

  more : due_of k ps (take (j + 1) bs) ≡ take n ds ++ due_of k ps (b ∷ [])
  more = rw (add-one j, take-suc bs j 0 h, i) (due_append k ps (take j bs) (b ∷ []))

  pub gathered_on : take (n + one_if_due k (get_or ps b 0)) (set ds n b) ≡ due_of k ps (take (j + 1) bs)
  gathered_on =
      either k ps b
      (λ e. rw (eq-eqb _ _ e, add-one n) (take-suc-set ds n b l ∙ sym (more ∙ ap (λ (x : List ℕ). take n ds ++ x) (due k ps b [] e ∙ ap (λ (x : List ℕ). b ∷ x) (due_nil k ps)))))
      (λ e. rw (ne_eqb _ _ e, add-zero n) (take-set-le n ds n b (omega arith) ∙ sym (more ∙ (ap (λ (x : List ℕ). take n ds ++ x) (elsewhere k ps b [] e ∙ due_nil k ps) ∙ append-nil (take n ds)))))

pub one_due : (k p : ℕ) → p ≡ k → 1 ≡ one_if_due k p
one_due k p h = rw (eq-eqb p k h)

pub none_due : (k p : ℕ) → (p ≡ k → ⊥) → 0 ≡ one_if_due k p
none_due k p h = rw (ne_eqb p k h)

pub at_most_one_due : (k p : ℕ) → one_if_due k p ≤ 1
at_most_one_due k p = go (eqb p k)
  where
    go : (t : Bool) → choose t 1 0 ≤ 1
    go true = omega arith
    go false = omega arith

-- Groups of positions, where they begin, and the ways of the table choices. Assumes nothing.
use Prim.Native.Nat.{ℕ, ◌-◌, ◌≤◌, ◌<◌}
use native.Mathlib.Omega.{arith}
use mathlib.Core.Path.{◌≡◌, refl, sym, ap, ◌∙◌}
use mathlib.Core.List.{List}
use mathlib.Core.Bool.{Bool, true, false, not}
use lib.Dec.{eqb, ltb}
use borrow.Author.Tests.{lt-ltb, le-ltb, eq-eqb, ne_eqb}
use Rattle.bitstream.specs.Reading.{Outcome, got, refused, after, bind, pure, pick, field, two_fields}
use Rattle.bitstream.proofs.Fields.{field_lt}
use Rattle.bitstream.proofs.Laws.{bind_got}
use Rattle.table_choices.specs.Choices.{group, Choices, choices_of, choices}
use Rattle.table_choices.specs.Answer.{as_chosen, begins_group}
use Rattle.table_choices.specs.declared.Chosen.{Chosen}
use Rattle.table_choices.specs.declared.Chosen.TheVariants as chosen

-- ---- groups
module _ (k : ℕ) where
  pub group_0 : k < 1 → 0 ≡ group k
  unfolding group
  group_0 h = rw (lt-ltb k 1 h)

  pub group_1 : 1 ≤ k → k < 6 → 1 ≡ group k
  unfolding group
  group_1 l h = rw (le-ltb k 1 l, lt-ltb k 6 h)

  pub group_2 : 6 ≤ k → k < 15 → 2 ≡ group k
  unfolding group
  group_2 l h = rw (le-ltb k 1 (omega arith), le-ltb k 6 l, lt-ltb k 15 h)

  pub group_3 : 15 ≤ k → k < 28 → 3 ≡ group k
  unfolding group
  group_3 l h = rw (le-ltb k 1 (omega arith), le-ltb k 6 (omega arith), le-ltb k 15 l, lt-ltb k 28 h)

  pub group_4 : 28 ≤ k → 4 ≡ group k
  unfolding group
  group_4 l = rw (le-ltb k 1 (omega arith), le-ltb k 6 (omega arith), le-ltb k 15 (omega arith), le-ltb k 28 l)

-- ---- where a group begins
module _ (k : ℕ) where
  pub begins_first : k ≡ 0 → true ≡ begins_group k
  unfolding begins_group
  begins_first h = rw (eq-eqb k 0 h)

  pub begins_later : (k ≡ 0 → ⊥) → not (eqb (group k) (group (k - 1))) ≡ begins_group k
  unfolding begins_group
  begins_later h = rw (ne_eqb k 0 h)

-- ---- choices
module _ (k : ℕ) (ch : Choices) (p : List ℕ) (i : ℕ) where
  pub choices_kept : 2 ≤ k → choices k ch p i ≡ got ch i
  unfolding choices
  choices_kept h = rw (le-ltb k 2 h)

  -- new ones are two fields
  choices_two : k < 2 → choices k ch p i ≡ after (two_fields 4 4 p i) (λ v e. got (choices_of v.0 v.1) e)
  unfolding choices
  choices_two h = rw (lt-ltb k 2 h) (go (field 4 p i))
    where
      last : (a : ℕ) (o : Outcome ℕ) → after o (λ b e. got (choices_of a b) e) ≡ after {A = ℕ × ℕ} (after o (λ b e. got (a, b) e)) (λ v e. got (choices_of v.0 v.1) e)
      last a (got b e) = refl
      last a (refused n e) = refl

      go : (o : Outcome ℕ) → after o (λ a e. after (field 4 p e) (λ b d. got (choices_of a b) d)) ≡ after {A = ℕ × ℕ} (after o (λ a e. after (field 4 p e) (λ b d. got (a, b) d))) (λ v e. got (choices_of v.0 v.1) e)
      go (got a e) = last a (field 4 p e)
      go (refused n e) = refl

  pub choices_refused : k < 2 → {n e : ℕ} → two_fields 4 4 p i ≡ refused n e → choices k ch p i ≡ refused n e
  choices_refused h f = choices_two h ∙ ap (λ (o : Outcome (ℕ × ℕ)). after o (λ v e. got (choices_of v.0 v.1) e)) f

  pub choices_read : k < 2 → {a b e : ℕ} → two_fields 4 4 p i ≡ got (a, b) e → choices k ch p i ≡ got (choices_of a b) e
  choices_read h f = choices_two h ∙ ap (λ (o : Outcome (ℕ × ℕ)). after o (λ v e. got (choices_of v.0 v.1) e)) f

  -- a choice is below 16
  pub choices_small : ch.luma < 16 → ch.chroma < 16 → {ch' : Choices} {e : ℕ} → choices k ch p i ≡ got ch' e → (ch'.luma < 16) × (ch'.chroma < 16)
  unfolding choices
  choices_small x y {ch'} {e} h = go (ltb k 2) h
    where
      go : (b : Bool) → pick b (bind (field 4) (λ a. bind (field 4) (λ b. pure (choices_of a b)))) (pure ch) p i ≡ got ch' e → (ch'.luma < 16) × (ch'.chroma < 16)
      go true r =
          let u = bind_got (field 4) (λ a. bind (field 4) (λ b. pure (choices_of a b))) p i r in
          let v = bind_got (field 4) (λ b. pure (choices_of u.0 b)) p u.1 u.3 in
          let z : choices_of u.0 v.0 ≡ ch' = cc in
          rw (← z) (field_lt 4 p i u.2, field_lt 4 p u.1 v.2)
      go false r = let z : ch ≡ ch' = cc in rw (← z) (x, y)

module _ {r : Chosen} (o : Outcome Choices) (s : r ≡ as_chosen o) where
  pub chosen_tables : {a b e : ℕ} → r ≡ chosen.Tables a b e → o ≡ got (choices_of a b) e
  chosen_tables {a} {b} {e} g = go o (sym s ∙ g)
    where
      go : (o : Outcome Choices) → as_chosen o ≡ chosen.Tables a b e → o ≡ got (choices_of a b) e
      go (got ch d) h =
          let x : ch.luma ≡ a = cc in
          let y : ch.chroma ≡ b = cc in
          let z : d ≡ e = cc in
          λ i. got (choices_of (x i) (y i)) (z i)
      go (refused k d) h = let z : ◌≡◌ {A = ℕ} 0 1 = cc in absurd (omega arith)

  pub chosen_refused : {k e : ℕ} → r ≡ chosen.Refused k e → o ≡ refused k e
  chosen_refused {k} {e} g = go o (sym s ∙ g)
    where
      go : (o : Outcome Choices) → as_chosen o ≡ chosen.Refused k e → o ≡ refused k e
      go (got ch d) h = let z : ◌≡◌ {A = ℕ} 0 1 = cc in absurd (omega arith)
      go (refused j d) h = cc

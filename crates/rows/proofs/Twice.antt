-- Rows that are turned over twice are as they were: `turned-twice`. Assumes nothing.
use Prim.Native.Nat.{ℕ, zero, suc, ◌+◌, ◌-◌, ◌*◌, ◌≤◌, ◌<◌}
use native.Mathlib.Nat.{suc-mul, zero-mul, le_of_eq, eq-or-lt_of_le}
use native.Mathlib.Omega.{arith}
use mathlib.Core.Path.{◌≡◌, refl, sym, ap, ◌∙◌, subst}
use mathlib.Core.List.{List, ◌++◌}
use mathlib.Core.Logic.{◌⊎◌, inl, inr}
use lib.ListN.{length, take, drop, length-append, length-drop}
use lib.Seq.{take_all, drop_at, drop-append-le, take-append-le, take-add}
use Rattle.geometry.specs.Order.{in_turn}
use Rattle.geometry.proofs.Lists.{turn_same, turn_end}
use Rattle.output.specs.Output.{part}
use Rattle.output.proofs.Splices.{part_length}
use Rattle.rows.specs.Rows.{turned}
use Rattle.rows.proofs.Facts.{row_fits}

-- lists one behind the other, and list k of them
pub turn_part : (f : ℕ → List ℕ) (n k : ℕ) → k < n → part (in_turn f n) (length (in_turn f k)) (length (f k)) ≡ f k
unfolding in_turn
turn_part f zero k l = absurd (omega arith)
turn_part f (suc n) k l = by (eq-or-lt_of_le (omega arith)) (λ h. turn_end f n k h) (λ h. turn_part f n k h)
  where
    by : (k ≡ n) ⊎ (k < n) → (k < n → length (in_turn f k) + length (f k) ≤ length (in_turn f n)) → (k < n → part (in_turn f n) (length (in_turn f k)) (length (f k)) ≡ f k)
        → part (in_turn f n ++ f n) (length (in_turn f k)) (length (f k)) ≡ f k
    by (inl e) ends rest =
        ap (λ (m : ℕ). part (in_turn f n ++ f n) (length (in_turn f m)) (length (f m))) e
        ∙ ap (λ (m : List ℕ). take (length (f n)) m) (drop_at (in_turn f n) (f n) (length (in_turn f n)) refl)
        ∙ take_all (length (f n)) (f n) (le_of_eq refl) ∙ sym (ap f e)
    by (inr h) ends rest =
        let fit = ends h in
        ap (λ (m : List ℕ). take (length (f k)) m) (drop-append-le (length (in_turn f k)) (in_turn f n) (f n) (omega arith))
        ∙ take-append-le (length (f k)) (drop (length (in_turn f k)) (in_turn f n)) (f n) (subst (λ (m : ℕ). length (f k) ≤ m) (sym (length-drop (length (in_turn f k)) (in_turn f n))) (omega arith))
        ∙ rest h

module _ (row : ℕ) where
  -- lists of one length, one behind the other: how long they are, and where each stands
  pub in_turn_length : (f : ℕ → List ℕ) (n : ℕ) → ((i : ℕ) → i < n → length (f i) ≡ row) → length (in_turn f n) ≡ n * row
  unfolding in_turn
  in_turn_length f zero h = sym (zero-mul row)
  in_turn_length f (suc n) h =
      length-append (in_turn f n) (f n) ∙ omega (arith, in_turn_length f n (λ i l. h i (omega arith)), h n (omega arith), suc-mul n row)

  pub in_turn_part : (f : ℕ → List ℕ) (n : ℕ) → ((i : ℕ) → i < n → length (f i) ≡ row) → (j : ℕ) → j < n → part (in_turn f n) (j * row) row ≡ f j
  in_turn_part f n h j l =
      let at = in_turn_length f j (λ i k. h i (omega arith)) in
      let long = h j l in
      (λ i. part (in_turn f n) (sym at i) (sym long i)) ∙ turn_part f n j l

  -- all rows in their order
  pub in_order : (l : List ℕ) (n : ℕ) → in_turn (λ r. part l (r * row) row) n ≡ take (n * row) l
  unfolding in_turn
  in_order l zero = sym (ap (λ (m : ℕ). take m l) (zero-mul row))
  in_order l (suc n) = ap (λ (m : List ℕ). m ++ part l (n * row) row) (in_order l n) ∙ sym (take-add (n * row) row l) ∙ ap (λ (m : ℕ). take m l) (sym (suc-mul n row))

  pub turned_length : (rows : ℕ) (l : List ℕ) → length l ≡ rows * row → length (turned row rows l) ≡ rows * row
  unfolding turned
  turned_length rows l e = in_turn_length (λ r. part l ((rows - 1 - r) * row) row) rows (λ i h. part_length l ((rows - 1 - i) * row) row (let f = row_fits (rows - 1 - i) rows row (omega arith) in omega (arith, f, e)))

  pub turned_twice : (rows : ℕ) (l : List ℕ) → length l ≡ rows * row → turned row rows (turned row rows l) ≡ l
  unfolding turned
  turned_twice rows l e =
      turn_same _ (λ r. part l (r * row) row) rows (λ r h. back r h)
      ∙ in_order l rows ∙ take_all (rows * row) l (le_of_eq e)
    where
      each : (i : ℕ) → i < rows → length (part l ((rows - 1 - i) * row) row) ≡ row
      each i h = part_length l ((rows - 1 - i) * row) row (let f = row_fits (rows - 1 - i) rows row (omega arith) in omega (arith, f, e))

      back : (r : ℕ) → r < rows → part (in_turn (λ i. part l ((rows - 1 - i) * row) row) rows) ((rows - 1 - r) * row) row ≡ part l (r * row) row
      back r h =
          let same : rows - 1 - (rows - 1 - r) ≡ r = omega arith in
          in_turn_part (λ i. part l ((rows - 1 - i) * row) row) rows each (rows - 1 - r) (omega arith) ∙ ap (λ (m : ℕ). part l (m * row) row) same

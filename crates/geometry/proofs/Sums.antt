-- Sums over consecutive numbers, and lists in turn of these lengths.
use mathlib.Core.Path.{◌≡◌, refl, sym, ap, ◌∙◌}
use mathlib.Core.Logic.{⊎_elim}
use mathlib.Core.Bool.{Bool, true, false}
use mathlib.Core.List.{List, ◌++◌}
use Prim.Native.Nat.{ℕ, zero, suc, ◌+◌, ◌-◌, ◌<◌}
use native.Mathlib.Nat.{eq-or-lt_of_le, le_of_suc-le-suc, not-suc-le-zero}
use native.Mathlib.Omega.{arith}
use borrow.Author.Tests.{ltb-true, ltb-false}
use lib.Dec.{ltb}
use lib.ListN.{length, length-append}
use Rattle.geometry.specs.Sizes.{total}
use Rattle.geometry.specs.Order.{in_turn}
use Rattle.geometry.proofs.Lists.{turn_add}

module _ (g : ℕ → ℕ) where
  -- part i of number k lies below the sum
  pub total_below : (n k i : ℕ) → k < n → i < g k → total g k + i < total g n
  unfolding total
  total_below zero k i h l = absurd (not-suc-le-zero h)
  total_below (suc n) k i h l =
      ⊎_elim (λ (e : k ≡ n). let a : g n ≡ g k = ap g (sym e) in let b : total g n ≡ total g k = ap (total g) (sym e) in omega arith)
      (λ (b : k < n). omega (arith, total_below n k i b l))
      (eq-or-lt_of_le (le_of_suc-le-suc h))

  -- each number below the sum is part `rest` of one number `of`
  pub record PartOf (n i : ℕ) : Type 0 where
    pub of : ℕ
    pub rest : ℕ
    pub of_below : of < n
    pub rest_below : rest < g of
    pub sum : total g of + rest ≡ i

  pub part_of : (n i : ℕ) → i < total g n → PartOf n i
  unfolding total
  part_of zero i h = absurd (not-suc-le-zero h)
  part_of (suc n) i h = go (ltb i (total g n)) refl (part_of n i)
    where
      go : (t : Bool) → ltb i (total g n) ≡ t → (i < total g n → PartOf n i) → PartOf (suc n) i
      go true e lower =
          let p = lower (ltb-true i (total g n) e) in
          record { of = p.of; rest = p.rest; of_below = omega (arith, p.of_below); rest_below = p.rest_below; sum = p.sum }
      go false e lower =
          let l = ltb-false i (total g n) e in
          record { of = n; rest = i - total g n; of_below = omega arith; rest_below = omega arith; sum = omega arith }

  -- and of no other
  pub total_once : (k i k' i' : ℕ) → i < g k → i' < g k' → total g k + i ≡ total g k' + i' → (k ≡ k') × (i ≡ i')
  total_once k i k' i' h h' e = go (ltb k k') refl (ltb k' k) refl
    where
      go : (s : Bool) → ltb k k' ≡ s → (t : Bool) → ltb k' k ≡ t → (k ≡ k') × (i ≡ i')
      go true a t b = absurd (omega (arith, total_below k' k i (ltb-true k k' a) h))
      go false a true b = absurd (omega (arith, total_below k k' i' (ltb-true k' k b) h'))
      go false a false b =
          let s : k ≡ k' = omega (arith, ltb-false k k' a, ltb-false k' k b) in
          let t : total g k ≡ total g k' = ap (total g) s in
          (s, omega arith)

module _ {A : Type 0} (f : ℕ → List A) (g : ℕ → ℕ) (e : (k : ℕ) → length (f k) ≡ g k) where
  pub turn_total : (n : ℕ) → length (in_turn f n) ≡ total g n
  unfolding in_turn total
  turn_total zero = refl
  turn_total (suc n) = length-append (in_turn f n) (f n) ∙ omega (arith, turn_total n, e n)

-- lists by number, in parts of these sizes
pub turn_parts : {A : Type 0} (f : ℕ → List A) (g : ℕ → ℕ) (n : ℕ) → in_turn f (total g n) ≡ in_turn (λ k. in_turn (λ j. f (total g k + j)) (g k)) n
unfolding in_turn total
turn_parts f g zero = refl
turn_parts {A} f g (suc n) =
    turn_add f (total g n) (g n) ∙ ap (λ (l : List A). l ++ in_turn (λ j. f (total g n + j)) (g n)) (turn_parts f g n)

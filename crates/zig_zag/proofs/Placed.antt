-- The values of a block, put each to its place in zig-zag order into a list of zeros: what the list is when the positions below p are placed, one more, and what it is when the rest are zeros.
-- Assumes nothing.
use mathlib.Core.Path.{◌≡◌, refl, sym, ap, ap₂, ◌∙◌}
use mathlib.Core.Bool.{Bool, true, false, cond}
use mathlib.Core.List.{List, ◌∷◌}
use Prim.Native.Nat.{ℕ, zero, suc, ◌+◌, ◌≤◌, ◌<◌}
use native.Mathlib.Nat.{add-zero, zero-add, zero-mul, le_trans, not-suc-le-zero}
use native.Mathlib.Omega.{arith}
use borrow.Author.Tests.{lt-ltb, le-ltb, ltb-true, ltb-false}
use lib.Dec.{ltb}
use lib.IntN.{ℤ, pos}
use lib.ListN.{length, get_or, set, replicate}
use Rattle.numeric.specs.Cut.{mod16, read16, cut}
use Rattle.zig_zag.specs.Values.{zig_zag, dequantized, tabulated, value_at, values}
use Rattle.zig_zag.specs.Placing.{turned, ZerosFrom, placed, partly, StandsAt}
use Rattle.zig_zag.proofs.Turned.{length_tabulated}
use Rattle.zig_zag.proofs.ZigZag.{position_lt, one_index}

-- ---- lists that are tabulated

same : (f g : ℕ → ℤ) (j n : ℕ) → ((k : ℕ) → j ≤ k → k < j + n → f k ≡ g k) → tabulated f j n ≡ tabulated g j n
same f g j zero h = refl
same f g j (suc n) h = ap₂ (λ (x : ℤ) (l : List ℤ). x ∷ l) (h j (omega arith) (omega arith)) (same f g (suc j) n (λ k a b. h k (omega arith) (omega arith)))

set_one : (f g : ℕ → ℤ) (v : ℤ) (j n i : ℕ) → i < n → ((k : ℕ) → j ≤ k → k < j + n → (k ≡ j + i → ⊥) → f k ≡ g k) → v ≡ g (j + i) → set (tabulated f j n) i v ≡ tabulated g j n
set_one f g v j zero i h e r = absurd (not-suc-le-zero h)
set_one f g v j (suc n) zero h e r =
    ap₂ (λ (x : ℤ) (l : List ℤ). x ∷ l) (r ∙ ap g (add-zero j))
    (same f g (suc j) n (λ k a b. e k (omega arith) (omega arith) (λ d. absurd (omega arith))))
set_one f g v j (suc n) (suc i) h e r =
    let d : j + suc i ≡ suc j + i = omega arith in
    ap₂ (λ (x : ℤ) (l : List ℤ). x ∷ l) (e j (omega arith) (omega arith) (λ d. absurd (omega arith)))
    (set_one f g v (suc j) n i (omega arith) (λ k a b u. e k (omega arith) (omega arith) (λ m. u (omega arith))) (r ∙ ap g d))

-- ---- positions

-- a position that an index stands at
pub stands_lt : (p i : ℕ) → StandsAt p i → p < 64
stands_lt p i h = let b = position_lt i h.0 in omega (arith, h.1)

-- ---- a test of a position

test_true : (z p : ℕ) (t : Bool) → ltb z p ≡ t → (z ≡ p → ⊥) → z < p + 1 → ltb z p ≡ true
test_true z p true e u h = e
test_true z p false e u h = absurd (u (let k = ltb-false z p e in omega arith))

-- the next test differs at p alone
test_next : (z p : ℕ) (t : Bool) → ltb z (p + 1) ≡ t → (z ≡ p → ⊥) → ltb z p ≡ t
test_next z p true e u = test_true z p (ltb z p) refl u (ltb-true z (p + 1) e)
test_next z p false e u = le-ltb z p (let h = ltb-false z (p + 1) e in omega arith)

-- ---- the values

zero_value : (q : ℕ) → dequantized (pos 0) q ≡ pos 0
unfolding dequantized cut read16 mod16
zero_value q = ap (λ (m : ℕ). cut (pos m)) (zero-mul q)

module _ (coefs : List ℤ) (at : ℕ) (dc : ℤ) (q : ℕ) (matrix : List ℕ) where
  abbrev value : ℕ → ℤ
  value = value_at coefs at dc q matrix

  pub partly_length : (p : ℕ) → length (partly coefs at dc q matrix p) ≡ 64
  unfolding partly
  partly_length p = length_tabulated (placed coefs at dc q matrix p) 0 64

  -- DC's
  pub first_placed : set (replicate 64 (pos 0)) 0 (dequantized dc q) ≡ partly coefs at dc q matrix 1
  unfolding partly zig_zag
  first_placed = refl

  value_is : (i : ℕ) → 1 ≤ get_or zig_zag i 0 → dequantized (get_or coefs (at + get_or zig_zag i 0) (pos 0)) (get_or matrix i 0) ≡ value i
  unfolding zig_zag
  value_is zero h = absurd (not-suc-le-zero h)
  value_is (suc i) h = refl

  -- what stands at another index stays
  stays : (p i k : ℕ) → StandsAt p i → k < 64 → (k ≡ i → ⊥) → placed coefs at dc q matrix p k ≡ placed coefs at dc q matrix (p + 1) k
  stays p i k h b u =
      ap (λ (t : Bool). cond t (value k) (pos 0))
      (test_next (get_or zig_zag k 0) p (ltb (get_or zig_zag k 0) (p + 1)) refl (λ e. u (one_index k i b h.0 (e ∙ sym h.1))))

  value_at_law : (p i : ℕ) → 1 ≤ p → get_or zig_zag i 0 ≡ p → dequantized (get_or coefs (at + p) (pos 0)) (get_or matrix i 0) ≡ placed coefs at dc q matrix (p + 1) i
  value_at_law p i l e =
      ap (λ (z : ℕ). dequantized (get_or coefs (at + z) (pos 0)) (get_or matrix i 0)) (sym e)
      ∙ value_is i (omega arith)
      ∙ ap (λ (t : Bool). cond t (value i) (pos 0)) (sym (lt-ltb (get_or zig_zag i 0) (p + 1) (omega arith)))

  -- one more position
  pub next_placed : (s : List ℤ) (p i : ℕ) (v : ℤ) → 1 ≤ p → StandsAt p i → s ≡ partly coefs at dc q matrix p → v ≡ dequantized (get_or coefs (at + p) (pos 0)) (get_or matrix i 0) → set s i v ≡ partly coefs at dc q matrix (p + 1)
  unfolding partly
  next_placed s p i v l h e r =
      ap (λ (l : List ℤ). set l i v) e
      ∙ set_one (placed coefs at dc q matrix p) (placed coefs at dc q matrix (p + 1)) v 0 64 i h.0
      (λ k a b u. stays p i k h (omega arith) (λ d. u (d ∙ sym (zero-add i))))
      (r ∙ value_at_law p i l h.1 ∙ ap (placed coefs at dc q matrix (p + 1)) (sym (zero-add i)))

  rest_is : (p k : ℕ) (t : Bool) → ltb (get_or zig_zag k 0) p ≡ t → 1 ≤ p → (p ≤ get_or zig_zag k 0 → get_or coefs (at + get_or zig_zag k 0) (pos 0) ≡ pos 0) → placed coefs at dc q matrix p k ≡ value k
  rest_is p k true e l h = ap (λ (t : Bool). cond t (value k) (pos 0)) e
  rest_is p k false e l h =
      let b = ltb-false (get_or zig_zag k 0) p e in
      ap (λ (t : Bool). cond t (value k) (pos 0)) e
      ∙ sym (zero_value (get_or matrix k 0))
      ∙ ap (λ (x : ℤ). dequantized x (get_or matrix k 0)) (sym (h b))
      ∙ value_is k (le_trans l b)

  pub values_length : length (values coefs at dc q matrix) ≡ 64
  unfolding values
  values_length = length_tabulated value 0 64

  -- all that are not zeros
  all_placed : (p n : ℕ) → 1 ≤ p → n ≤ p → ZerosFrom coefs at n → partly coefs at dc q matrix p ≡ values coefs at dc q matrix
  unfolding partly values
  all_placed p n l h e =
      same (placed coefs at dc q matrix p) value 0 64
      (λ k a b. rest_is p k (ltb (get_or zig_zag k 0) p) refl l (λ m. e (get_or zig_zag k 0) (le_trans h m) (position_lt k (omega arith))))

  -- the same of a turned block
  pub all_turned : (t : List ℤ) (p n : ℕ) → 1 ≤ p → n ≤ p → ZerosFrom coefs at n → t ≡ turned (partly coefs at dc q matrix p) → t ≡ turned (values coefs at dc q matrix)
  all_turned t p n l h z e = e ∙ ap turned (all_placed p n l h z)

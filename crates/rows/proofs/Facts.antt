-- Facts for a loop over rows. Assumes nothing.
use Prim.Native.Nat.{ℕ, zero, suc, ◌+◌, ◌-◌, ◌*◌, ◌≤◌, ◌<◌}
use native.Mathlib.Nat.{mul-le-mul_right, lt_of_mul-lt-mul_right, eq_of_mul-eq-mul_right, zero-lt-suc, mul-zero, suc-mul, add-mul, le_trans, le_of_eq}
use native.Mathlib.Omega.{arith}
use mathlib.Core.Path.{◌≡◌, refl, sym, ap, ◌∙◌}
use mathlib.Core.List.{List, [], ◌++◌}
use lib.ListN.{length, take}
use lib.Seq.{length-take-le, take-append-add, take_at}
use borrow.Rule.Slice.PartMut.{put_mid, post_of}
use Rattle.geometry.specs.Order.{in_turn}
use Rattle.output.specs.Output.{part}

-- while something is left there is a row more
pub row_left : (r rows row at from : ℕ) → 0 < from → at ≡ r * row → at + from ≡ rows * row → r < rows
row_left r rows row at from h a s = lt_of_mul-lt-mul_right row (omega (arith, h, a, s))

-- and rows have samples
pub row_some : (rows row at from : ℕ) → 0 < from → at + from ≡ rows * row → 0 < row
row_some rows zero at from h s = omega (arith, h, s, mul-zero rows)
row_some rows (suc row) at from h s = omega arith

-- a row more fits
pub row_fits : (r rows row : ℕ) → r < rows → r * row + row ≤ rows * row
row_fits r rows row h = le_trans (le_of_eq (omega (arith, suc-mul r row))) (mul-le-mul_right row h)

-- where row number rows - 1 - r begins
pub row_begin : (r rows row at from : ℕ) → r < rows → at ≡ r * row → at + from ≡ rows * row → from - row ≡ (rows - 1 - r) * row
row_begin r rows row at from h a s =
    let m = rows - 1 - r in
    let e : rows ≡ m + suc r = omega arith in
    let p : rows * row ≡ m * row + suc r * row = ap (λ (n : ℕ). n * row) e ∙ add-mul m (suc r) row in
    omega (arith, suc-mul r row)

-- what was written, one part more
pub taken_more : (at n : ℕ) (dst mid : List ℕ) → at ≤ length dst → length mid ≡ n → take (at + n) (put_mid at (at + n - at) dst mid) ≡ take at dst ++ mid
taken_more at n dst mid h e =
    let front : length (take at dst) ≡ at = length-take-le at dst h in
    let z = post_of at (at + n - at) dst in
    let k : length (take at dst) + n ≡ at + n = ap (λ (m : ℕ). m + n) front in
    sym (ap (λ (m : ℕ). take m (take at dst ++ (mid ++ z))) k)
    ∙ take-append-add (take at dst) (mid ++ z) n
    ∙ ap (λ (l : List ℕ). take at dst ++ l) (take_at mid z n e)

-- one list more
pub in_turn_more : (f : ℕ → List ℕ) (r : ℕ) → in_turn f (r + 1) ≡ in_turn f r ++ f r
unfolding in_turn
in_turn_more f r = let e : r + 1 ≡ suc r = omega arith in ap (λ (n : ℕ). in_turn f n) e

-- rows without samples
no_samples : (g : ℕ → ℕ) (l : List ℕ) (n : ℕ) → in_turn (λ i. part l (g i) 0) n ≡ []
unfolding in_turn
no_samples g l zero = refl
no_samples g l (suc n) = λ i. no_samples g l n i ++ []

-- as many samples are as many rows, or there are none
pub all_rows : (g : ℕ → ℕ) (l : List ℕ) (r rows row : ℕ) → r * row ≡ rows * row → in_turn (λ i. part l (g i) row) r ≡ in_turn (λ i. part l (g i) row) rows
all_rows g l r rows zero e = no_samples g l r ∙ sym (no_samples g l rows)
all_rows g l r rows (suc row) e = ap (λ (n : ℕ). in_turn (λ i. part l (g i) (suc row)) n) (eq_of_mul-eq-mul_right (suc row) (zero-lt-suc row) r rows e)

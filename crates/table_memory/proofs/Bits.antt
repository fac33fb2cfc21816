-- The bits of a number, and numbers whose bits are all 0. Assumes nothing.
use Prim.Native.Nat.{ℕ, zero, suc, ◌+◌, ◌-◌, ◌/◌, ◌%◌, ◌^◌, ◌≤◌, ◌<◌}
use native.Mathlib.Omega.{arith}
use mathlib.Core.Path.{◌≡◌, refl, sym, ap, ◌∙◌}
use mathlib.Core.List.{List}
use mathlib.Core.Bool.{Bool, true, false}
use lib.Dec.{ltb}
use lib.Pow.{high}
use borrow.Author.Tests.{ltb-true, ltb-false}
use Rattle.bitstream.specs.Bits.{bit_at, number}
use Rattle.bitstream.proofs.Numbers.{bit_lt, number_lt, number_more, number_add}

pub bit_of_number : (p : List ℕ) (i n j : ℕ) → j < n → number p i n / 2 ^ (n - 1 - j) % 2 ≡ bit_at p (i + j)
bit_of_number p i n j h =
    let m = n - 1 - j in
    let e : n ≡ j + 1 + m = omega arith in
    let u : number p i n / 2 ^ m ≡ number p i (j + 1) = ap (λ (x : ℕ). number p i x / 2 ^ m) e ∙ ap (λ (x : ℕ). x / 2 ^ m) (number_add p i (j + 1) m) ∙ high (number p i (j + 1)) m (number_lt p (i + (j + 1)) m) in
    ap (λ (x : ℕ). x % 2) (u ∙ number_more p i j) ∙ omega (arith, bit_lt p (i + j))

pub zero_number : (p : List ℕ) (i n : ℕ) → ((k : ℕ) → i ≤ k → k < i + n → bit_at p k ≡ 0) → number p i n ≡ 0
unfolding number
zero_number p i zero h = refl
zero_number p i (suc n) h = omega (arith, zero_number p i n (λ k a b. h k a (omega arith)), h (i + n) (omega arith) (omega arith))

pub number_zero : (p : List ℕ) (i n : ℕ) → number p i n ≡ 0 → (k : ℕ) → i ≤ k → k < i + n → bit_at p k ≡ 0
unfolding number
number_zero p i zero h k a b = absurd (omega arith)
number_zero p i (suc n) h k a b = go (ltb k (i + n)) refl (number_zero p i n (omega arith) k a)
  where
    go : (t : Bool) → ltb k (i + n) ≡ t → (k < i + n → bit_at p k ≡ 0) → bit_at p k ≡ 0
    go true t ih = ih (ltb-true _ _ t)
    go false t ih = let l : i + n ≤ k = ltb-false _ _ t in let e : k ≡ i + n = omega arith in rw e (omega (arith, h))

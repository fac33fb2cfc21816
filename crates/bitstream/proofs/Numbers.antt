-- The number that a field's bits are. Assumes nothing.
use Prim.Native.Nat.{ℕ, zero, suc, ◌+◌, ◌*◌, ◌/◌, ◌%◌, ◌^◌, ◌<◌}
use native.Mathlib.Omega.{arith}
use native.Mathlib.Nat.{pow-suc, add-zero, add-suc, add_assoc, mul_assoc}
use native.Mathlib.Numerals.{add-one}
use mathlib.Core.Path.{◌≡◌, refl, sym, ap, ap₂, ◌∙◌}
use mathlib.Core.List.{List}
use lib.Pow.{high, low}
use Rattle.bitstream.specs.Bits.{bit_at, number}

pub bit_lt : (p : List ℕ) (i : ℕ) → bit_at p i < 2
unfolding bit_at
bit_lt p i = omega arith

-- n bits are below 2 ^ n
pub number_lt : (p : List ℕ) (i n : ℕ) → number p i n < 2 ^ n
unfolding number
number_lt p i zero = omega arith
number_lt p i (suc n) = rw pow-suc (omega (arith, number_lt p i n, bit_lt p (i + n)))

-- one bit more
pub number_more : (p : List ℕ) (i n : ℕ) → number p i (n + 1) ≡ number p i n * 2 + bit_at p (i + n)
unfolding number
number_more p i n = rw add-one

-- one bit
pub number_one : (p : List ℕ) (i : ℕ) → number p i 1 ≡ bit_at p i
unfolding number
number_one p i = let e : bit_at p (i + 0) ≡ bit_at p i = ap (λ (k : ℕ). bit_at p k) (add-zero i) in omega (arith, e)

-- packets that agree up to the field's end have the same number there
pub number_same : (p q : List ℕ) (i n : ℕ) → ((k : ℕ) → k < i + n → bit_at p k ≡ bit_at q k) → number p i n ≡ number q i n
unfolding number
number_same p q i zero h = refl
number_same p q i (suc n) h = ap₂ (λ (x y : ℕ). x * 2 + y) (number_same p q i n (λ k l. h k (omega arith))) (h (i + n) (omega arith))

-- a field in two parts
pub number_add : (p : List ℕ) (i n m : ℕ) → number p i (n + m) ≡ number p i n * 2 ^ m + number p (i + n) m
unfolding number
number_add p i n zero = rw add-zero (omega arith)
number_add p i n (suc m) =
    rw (add-suc, pow-suc, number_add p i n m)
    (ap (λ (k : ℕ). (number p i n * 2 ^ m + number p (i + n) m) * 2 + bit_at p k) (sym (add_assoc i n m)) ∙ regroup (number p i n) (2 ^ m) (number p (i + n) m) (bit_at p (i + n + m)))
  where
    regroup : (a b x y : ℕ) → (a * b + x) * 2 + y ≡ a * (b * 2) + (x * 2 + y)
    regroup a b x y = rw (← mul_assoc a b 2) (omega arith)

-- the part of w bits that has a bits before it and b behind it
pub number_part : (p : List ℕ) (i a w b : ℕ) → number p i (a + w + b) / 2 ^ b % 2 ^ w ≡ number p (i + a) w
number_part p i a w b = rw (number_add p i (a + w) b, high (number p i (a + w)) b (number_lt p (i + (a + w)) b), number_add p i a w) (low (number p i a) w (number_lt p (i + a) w))

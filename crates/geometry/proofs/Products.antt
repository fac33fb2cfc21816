-- The few laws of products that the orders need. `omega` takes a product of two variables as an atom, so each law names its products.
use mathlib.Core.Path.{◌≡◌, refl, sym, ap, ◌∙◌}
use Prim.Native.Nat.{ℕ, zero, suc, ◌+◌, ◌-◌, ◌*◌, ◌/◌, ◌%◌, ◌≤◌, ◌<◌, min}
use native.Mathlib.Nat.{mul_comm, mul_assoc, mul_left_comm, add-mul, mul-suc, mul-le-mul, mul-pos, lt_of_mul-lt-mul_right, mod-lt, div-add-mod', le-div_iff_mul-le, lt-div-mul-add}
use borrow.Author.Tests.{leb-true, leb-false}
use lib.Dec.{leb}
use mathlib.Core.Bool.{Bool, true, false}
use native.Mathlib.Omega.{arith}

-- n squares of side s cover min (s n) N of N; each holds c to the column
pub sum_step : (s N c n : ℕ) → min (s * n) N * c + min s (N - s * n) * c ≡ min (s * suc n) N * c
sum_step s N c n =
    let e : min (s * n) N + min s (N - s * n) ≡ min (s * suc n) N = omega (arith, mul-suc s n) in
    sym (add-mul (min (s * n) N) (min s (N - s * n)) c) ∙ ap (λ (k : ℕ). k * c) e

-- the number of squares: they cover n, and the last begins below n
pub squares_cover : (s n : ℕ) → 0 < s → n ≤ s * ((n + (s - 1)) / s)
squares_cover s n h = omega (arith, lt-div-mul-add {a = n + (s - 1)} h, mul_comm s ((n + (s - 1)) / s))

pub squares_reach : (s n k : ℕ) → 0 < s → s * k < n → k < (n + (s - 1)) / s
squares_reach s n k h l = (le-div_iff_mul-le h).1 (omega (arith, mul_comm (suc k) s, mul-suc s k))

pub squares_begin : (s n k : ℕ) → 0 < s → k < (n + (s - 1)) / s → s * k < n
squares_begin s n k h l = omega (arith, (le-div_iff_mul-le {x = suc k} h).0 l, mul_comm (suc k) s, mul-suc s k)

-- a product with a number below it has no factor 0
pub some_factor : (i m n : ℕ) → i < m * n → 0 < n
some_factor i m zero l = absurd (omega arith)
some_factor i m (suc n) l = omega arith

-- below both products, so below the product with the lesser
pub min_rest : (a b c q : ℕ) → q < a * c → q < b * c → q < min a b * c
min_rest a b c q h k = go (leb a b) refl
  where
    go : (t : Bool) → leb a b ≡ t → q < min a b * c
    go true e = let l = leb-true a b e in let m : min a b ≡ a = omega arith in rw m h
    go false e = let l = leb-false a b e in let m : min a b ≡ b = omega arith in rw m k

-- cut off whole squares of side s from i, each of s c places, out of N c places: the square begins in N, and the rest is in it
module _ (s N c i : ℕ) (hs : 0 < s) (hc : 0 < c) (hi : i < N * c) where
  pub split_sum : s * (i / (s * c)) * c + i % (s * c) ≡ i
  split_sum = omega (arith, div-add-mod' i (s * c), mul_assoc s (i / (s * c)) c, mul_left_comm s (i / (s * c)) c)

  pub split_begins : s * (i / (s * c)) < N
  split_begins = let e = split_sum in lt_of_mul-lt-mul_right c (omega arith)

  pub split_rest : i % (s * c) < min s (N - s * (i / (s * c))) * c
  split_rest =
      let e = split_sum in
      let b = split_begins in
      let f : N - s * (i / (s * c)) + s * (i / (s * c)) ≡ N = omega arith in
      min_rest s (N - s * (i / (s * c))) c (i % (s * c)) (mod-lt i (mul-pos hs hc))
      (omega (arith, ap (λ (n : ℕ). n * c) f, add-mul (N - s * (i / (s * c))) (s * (i / (s * c))) c))

-- a product of two numbers of at most 131,070
pub plane_small : (a b : ℕ) → a ≤ 131070 → b ≤ 131070 → a * b ≤ 17179344900
plane_small a b ha hb = mul-le-mul ha hb

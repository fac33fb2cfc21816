-- Number i of h w numbers: its row and column of squares, and what is left in the square. No walk is needed for these.
use mathlib.Core.Path.{◌≡◌}
use Prim.Native.Nat.{ℕ, ◌+◌, ◌*◌, ◌/◌, ◌%◌, ◌<◌}
use native.Mathlib.Nat.{mul_comm}
use native.Mathlib.Omega.{arith}
use Rattle.geometry.specs.Square.{reach}
use Rattle.geometry.proofs.Products.{some_factor, split_sum, split_begins, split_rest}

abbrev pub row_of : ℕ → ℕ → ℕ → ℕ
row_of s w i = i / (s * w)

abbrev pub col_of : ℕ → ℕ → ℕ → ℕ → ℕ
col_of s w h i = i % (s * w) / (s * reach s h (row_of s w i))

abbrev pub rest_of : ℕ → ℕ → ℕ → ℕ → ℕ
rest_of s w h i = i % (s * w) % (s * reach s h (row_of s w i))

module _ (s w h i : ℕ) (hs : 0 < s) (hi : i < h * w) where
  pub wide : 0 < w
  wide = some_factor i h w hi

  pub low : s * row_of s w i < h
  low = split_begins s h w i hs wide hi

  pub tall : 0 < reach s h (row_of s w i)
  tall = let b = low in omega arith

  rest_b : i % (s * w) < w * reach s h (row_of s w i)
  rest_b = omega (arith, split_rest s h w i hs wide hi, mul_comm w (reach s h (row_of s w i)))

  pub left : s * col_of s w h i < w
  left = split_begins s w (reach s h (row_of s w i)) (i % (s * w)) hs tall rest_b

  pub rest : rest_of s w h i < reach s w (col_of s w h i) * reach s h (row_of s w i)
  rest = split_rest s w (reach s h (row_of s w i)) (i % (s * w)) hs tall rest_b

  pub whole : s * row_of s w i * w + (s * col_of s w h i * reach s h (row_of s w i) + rest_of s w h i) ≡ i
  whole = omega (arith, split_sum s h w i hs wide hi, split_sum s w (reach s h (row_of s w i)) (i % (s * w)) hs tall rest_b)

  -- with the height in a variable
  pub left_by : (v : ℕ) → v ≡ reach s h (row_of s w i) → (0 < v) × (s * (i % (s * w) / (s * v)) < w)
  left_by v e = rw e (tall, left)

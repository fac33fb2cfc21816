-- The values of a block: its coefficients dequantised, in natural order.
use Rattle.std.specs.Prelude.{List, [], ◌∷◌, ℕ, zero, suc, ◌+◌, ℤ, pos, ◌*ℤ◌, get_or}
use Rattle.numeric.specs.Cut.{cut}

-- 002, figure "Zig-zag order", row by row: where in zig-zag order the coefficients stand that are in natural order here
unfoldable pub zig_zag : List ℕ
zig_zag =
    0 ∷ 1 ∷ 5 ∷ 6 ∷ 14 ∷ 15 ∷ 27 ∷ 28 ∷
    2 ∷ 4 ∷ 7 ∷ 13 ∷ 16 ∷ 26 ∷ 29 ∷ 42 ∷
    3 ∷ 8 ∷ 12 ∷ 17 ∷ 25 ∷ 30 ∷ 41 ∷ 43 ∷
    9 ∷ 11 ∷ 18 ∷ 24 ∷ 31 ∷ 40 ∷ 44 ∷ 53 ∷
    10 ∷ 19 ∷ 23 ∷ 32 ∷ 39 ∷ 45 ∷ 52 ∷ 54 ∷
    20 ∷ 22 ∷ 33 ∷ 38 ∷ 46 ∷ 51 ∷ 55 ∷ 60 ∷
    21 ∷ 34 ∷ 37 ∷ 47 ∷ 50 ∷ 56 ∷ 59 ∷ 61 ∷
    35 ∷ 36 ∷ 48 ∷ 49 ∷ 57 ∷ 58 ∷ 62 ∷ 63 ∷
    []

-- "Dequantised values are cut to 16 bits"
unfoldable pub dequantized : ℤ → ℕ → ℤ
dequantized c q = cut (c *ℤ pos q)

-- n numbers, f i, f (i + 1) and so on
abbrev pub tabulated : (ℕ → ℤ) → ℕ → ℕ → List ℤ
tabulated f i zero = []
tabulated f i (suc n) = f i ∷ tabulated f (suc i) n

-- a block: its coefficients in zig-zag order from place `at` of a list, its DC after prediction, the quantizer of DC, and the matrix of the rest in natural order
module _ (coefs : List ℤ) (at : ℕ) (dc : ℤ) where
  -- "DC uses the frame's first qi, the rest the block's qi"
  abbrev pub value_at : ℕ → List ℕ → ℕ → ℤ
  value_at q matrix zero = dequantized dc q
  value_at q matrix (suc i) = dequantized (get_or coefs (at + get_or zig_zag (suc i) 0) (pos 0)) (get_or matrix (suc i) 0)

  -- the dequantised values in natural order
  unfoldable pub values : ℕ → List ℕ → List ℤ
  values q matrix = tabulated (value_at q matrix) 0 64

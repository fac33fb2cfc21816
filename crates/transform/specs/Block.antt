-- The inverse transform of a block: 64 numbers, row by row.
use Rattle.std.specs.Prelude.{List, ℕ, zero, suc, ◌*◌, ℤ}
use Rattle.lines.specs.Places.{transform_line}

-- the first n rows, one after the other, and the first n columns
unfoldable pub rows : ℕ → List ℤ → List ℤ
rows zero s = s
rows (suc n) s = transform_line (rows n s) (n * 8) 1

unfoldable pub columns : ℕ → List ℤ → List ℤ
columns zero s = s
columns (suc n) s = transform_line (columns n s) n 8

-- "the inverse transform, rows then columns"
unfoldable pub inverse : List ℤ → List ℤ
inverse s = columns 8 (rows 8 s)

-- The three ways to divide: down, toward zero, and to the nearest.
use Rattle.std.specs.Prelude.{ℕ, suc, ◌+◌, ◌*◌, ◌/◌, ◌^◌, ℤ, pos, negsuc, neg_ℤ}
use Rattle.std.specs.Int.Signed.{shr_z, quot_z}

-- "`a>>b` is the floor": z / 2 ^ k, rounded down
abbrev pub floor_shift : ℤ → ℕ → ℤ
floor_shift z k = shr_z z (2 ^ k)

-- "`a//b` goes toward zero"
abbrev pub toward_zero : ℤ → ℕ → ℤ
toward_zero z d = quot_z z (pos d)

-- n / d to the nearest, a tie upward: the floor of n / d + 1/2
abbrev pub nearest : ℕ → ℕ → ℕ
nearest d n = (n * 2 + d) / (d * 2)

-- "round takes ties away from 0": the nearest to z / d, found on the magnitude, with the sign put back
unfoldable pub round_over : ℕ → ℤ → ℤ
round_over d (pos n) = pos (nearest d n)
round_over d (negsuc n) = neg_ℤ (pos (nearest d (suc n)))

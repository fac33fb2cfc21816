-- Writing a block as a loop has it: from the address of its lowest left sample (its corner), `row` samples to a row of its plane.
use Rattle.std.specs.Prelude.{List, ℕ, ◌+◌, ◌*◌, set}
use Rattle.ways.specs.Loops.{up_to}

-- 8 samples from `at` on
unfoldable pub row_at : (ℕ → ℕ) → ℕ → List ℕ → List ℕ
row_at sample at = up_to 8 (λ c s. set s (at + c) (sample c))

-- 8 rows of them
unfoldable pub block_at : (ℕ → ℕ → ℕ) → ℕ → ℕ → List ℕ → List ℕ
block_at sample corner row = up_to 8 (λ r. row_at (λ c. sample c r) (corner + r * row))

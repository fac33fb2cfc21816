-- An edge as the code comes to it: all its samples are read before any is written.
use Rattle.std.specs.Prelude.{◌≡◌, List, ℕ, ◌+◌, ◌*◌, ◌/◌, ◌%◌, ◌≤◌, ◌<◌, get_or, set}
use Rattle.ways.specs.Loops.{up_to}
use Rattle.edge_filter.specs.Filter.{filtered}

-- what the filter makes of the k-th p1 and p2
unfoldable pub crossed : (L at along step : ℕ) → List ℕ → ℕ → ℕ × ℕ
crossed L at along step s k =
    let i = at + k * along in
    filtered L (get_or s i 0) (get_or s (i + step) 0) (get_or s (i + step * 2) 0) (get_or s (i + step * 3) 0)

-- 8 of these in a list, the p1 before the p2
pub record NewSides (q : ℕ → ℕ × ℕ) (t : List ℕ) : Type 0 where
  pub each : (k : ℕ) → k < 8 → (get_or t k 0 ≡ (q k).0) × (get_or t (8 + k) 0 ≡ (q k).1)

-- four samples as one number n
pub record Four (s : List ℕ) (at n : ℕ) : Type 0 where
  pub p0 : n % 256 ≡ get_or s at 0
  pub p1 : n / 256 % 256 ≡ get_or s (at + 1) 0
  pub p2 : n / 65536 % 256 ≡ get_or s (at + 2) 0
  pub p3 : n / 16777216 ≡ get_or s (at + 3) 0

-- the fours of 8 rows
pub record Fours (s : List ℕ) (at row : ℕ) (t : List ℕ) : Type 0 where
  pub each : (k : ℕ) → k < 8 → Four s (at + k * row) (get_or t k 0)

-- what the filter makes of a four
abbrev pub of_four : ℕ → ℕ → ℕ × ℕ
of_four L n = filtered L (n % 256) (n / 256 % 256) (n / 65536 % 256) (n / 16777216)

-- p1 and p2 as one number n
pub record Pair (q : ℕ × ℕ) (n : ℕ) : Type 0 where
  pub p1 : n % 256 ≡ q.0
  pub p2 : n / 256 ≡ q.1

pub record Pairs (L : ℕ) (t r : List ℕ) : Type 0 where
  pub each : (k : ℕ) → k < 8 → Pair (of_four L (get_or t k 0)) (get_or r k 0)

-- the pairs written, each in its row behind the p0
unfoldable pub pairs_at : List ℕ → ℕ → ℕ → List ℕ → List ℕ
pairs_at r at row = up_to 8 (λ k s. set (set s (at + k * row + 1) (get_or r k 0 % 256)) (at + k * row + 2) (get_or r k 0 / 256))

-- an edge runs along a row or along a column of its plane, whose rows have 8 samples or more
pub data Runs (along step : ℕ) : Type 0 where
  in_row : along ≡ 1 → 8 ≤ step → Runs along step
  in_column : step ≡ 1 → 8 ≤ along → Runs along step

-- The loop filter over one plane, as loops have it: u rows of a blocks, the first of which has number `first`.
use Rattle.std.specs.Prelude.{false, not, cond, List, ◌≡◌, ℕ, ◌+◌, ◌*◌, ◌<◌, ltb}
use Rattle.geometry.specs.Sample.{sample_in}
use Rattle.ways.specs.Loops.{up_to, when}
use Rattle.ways.specs.Ways.{edges_at}
use Rattle.edge_filter.specs.Filter.{filtered}
use Rattle.block_edges.specs.Flags.{coded_at}

-- of the m blocks from number n on none is coded
abbrev pub NoneCoded : List ℕ → ℕ → ℕ → Type 0
NoneCoded records n m = (k : ℕ) → k < m → coded_at records (n + k) ≡ false

module _ (records : List ℕ) (L first a u : ℕ) where
  -- the edges of block (x, y), if it is coded
  unfoldable pub block_step : ℕ → ℕ → List ℕ → List ℕ
  block_step y x =
      let n = first + (y * a + x) in
      when (coded_at records n)
      (edges_at (filtered L) (64 * first + sample_in a x y 0 0) (8 * a)
      (ltb 0 x) (ltb 0 y) (cond (ltb (x + 1) a) (not (coded_at records (n + 1))) false) (cond (ltb (y + 1) u) (not (coded_at records (n + a))) false))

  unfoldable pub row_steps : ℕ → List ℕ → List ℕ
  row_steps y = up_to a (block_step y)

  unfoldable pub plane_steps : List ℕ → List ℕ
  plane_steps = up_to u row_steps

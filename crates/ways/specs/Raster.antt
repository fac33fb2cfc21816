-- The samples of a frame of w by h macro blocks: the planes follow on, each row by row from below, each row from the left.
use Rattle.std.specs.Prelude.{List, ℕ, ◌*◌, ◌/◌, ◌%◌}
use Rattle.geometry.specs.declared.PixelFormat.{PixelFormat}
use Rattle.geometry.specs.declared.Block.{Block}
use Rattle.geometry.specs.Sizes.{across, up}
use Rattle.geometry.specs.Frame.{block}
use Rattle.geometry.specs.Raster.{grid}

-- something for each sample, column c and row r of block b: "all three planes lie in one buffer, plane 0 first, rows bottom first"
unfoldable pub each_sample : {A : Type 0} → PixelFormat → ℕ → ℕ → (Block → ℕ → ℕ → A) → List A
each_sample f w h g = grid (λ p. 8 * across f w p) (λ p. 8 * up f h p) (λ p col row. g (block p (col / 8) (row / 8)) (col % 8) (row % 8))

-- The raster of a frame of w by h macro blocks: the planes follow on, each row by row from below, each row from the left.
use Rattle.std.specs.Prelude.{ℕ, ◌+◌, ◌*◌, List, [], ◌∷◌, get_or}
use Rattle.geometry.specs.declared.PixelFormat.{PixelFormat}
use Rattle.geometry.specs.declared.Block.{Block}
use Rattle.geometry.specs.Sizes.{across, up, blocks_before}
use Rattle.geometry.specs.Order.{in_turn}
use Rattle.geometry.specs.Frame.{block}

-- the raster number of a block
unfoldable pub raster_number : PixelFormat → ℕ → ℕ → Block → ℕ
raster_number f w h b = blocks_before f w h b.plane + (b.y * across f w b.plane + b.x)

-- something for each column and row of the three planes
unfoldable pub grid : {A : Type 0} → (cols rows : ℕ → ℕ) → (ℕ → ℕ → ℕ → A) → List A
grid cols rows f = in_turn (λ p. in_turn (λ y. in_turn (λ x. f p x y ∷ []) (cols p)) (rows p)) 3

-- all blocks
unfoldable pub raster : PixelFormat → ℕ → ℕ → List Block
raster f w h = grid (across f w) (up f h) block

-- the block with raster number n
unfoldable pub block_no : PixelFormat → ℕ → ℕ → ℕ → Block
block_no f w h n = get_or (raster f w h) n (block 0 0 0)

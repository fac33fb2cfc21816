-- "Planes follow on": the coded order of all blocks of a frame of w by h macro blocks.
use Rattle.std.specs.Prelude.{cond, List, [], ◌∷◌, ℕ, ◌-◌, ◌<◌, ltb}
use Rattle.geometry.specs.declared.PixelFormat.{PixelFormat}
use Rattle.geometry.specs.declared.Place.{Place}
use Rattle.geometry.specs.declared.Block.{Block}
use Rattle.geometry.specs.Sizes.{across, up, total, plane_super_blocks}
use Rattle.geometry.specs.Order.{in_turn, block_walk, block_order, square_no}

-- block (x, y) of plane p
abbrev pub block : ℕ → ℕ → ℕ → Block
block p x y = record { plane = p; x = x; y = y }

-- a block that lies in the frame
pub record InFrame (f : PixelFormat) (w h : ℕ) (b : Block) : Type 0 where
  pub of_three : b.plane < 3
  pub column : b.x < across f w b.plane
  pub row : b.y < up f h b.plane

-- the places of a list, in plane p
unfoldable pub in_plane : ℕ → List Place → List Block
in_plane p [] = []
in_plane p (q ∷ qs) = block p q.x q.y ∷ in_plane p qs

-- the blocks of plane p in coded order
unfoldable pub plane_order : PixelFormat → ℕ → ℕ → ℕ → List Block
plane_order f w h p = in_plane p (block_order (across f w p) (up f h p))

-- "Planes follow on": all blocks of the frame in coded order
unfoldable pub frame_order : PixelFormat → ℕ → ℕ → List Block
frame_order f w h = in_turn (plane_order f w h) 3

-- the super blocks of the planes before plane p
unfoldable pub super_blocks_before : PixelFormat → ℕ → ℕ → ℕ → ℕ
super_blocks_before f w h p = total (plane_super_blocks f w h) p

-- the blocks of super block k of plane p
unfoldable pub super_block_in : PixelFormat → ℕ → ℕ → ℕ → ℕ → List Block
super_block_in f w h p k = in_plane p (square_no 4 block_walk (across f w p) (up f h p) k)

-- the blocks of super block k of the frame: the planes' super blocks follow on
unfoldable pub super_block_of : PixelFormat → ℕ → ℕ → ℕ → List Block
super_block_of f w h k =
    cond (ltb k (super_blocks_before f w h 1)) (super_block_in f w h 0 k)
    (cond (ltb k (super_blocks_before f w h 2)) (super_block_in f w h 1 (k - super_blocks_before f w h 1)) (super_block_in f w h 2 (k - super_blocks_before f w h 2)))

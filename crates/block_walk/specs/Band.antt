-- Bands of a frame of w by h macro blocks.
use Rattle.std.specs.Prelude.{◌≡◌, ℕ, suc, ◌+◌, ◌*◌, ◌≤◌, ◌<◌}
use Rattle.geometry.specs.declared.PixelFormat.{PixelFormat}
use Rattle.geometry.specs.Sizes.{across, blocks_before}
use Rattle.block_walk.specs.declared.Band.{Band}

-- a band's numbers: from its first row on, in its plane, of four rows
pub record IsBand (f : PixelFormat) (w h : ℕ) (s : Band) : Type 0 where
  pub of_three : s.plane < 3
  pub start : s.first ≡ blocks_before f w h s.plane + s.y * across f w s.plane
  pub in_plane : s.end ≤ blocks_before f w h (suc s.plane)
  pub four_rows : s.end ≤ s.first + 4 * across f w s.plane

-- a band with block number n
pub record InBand (f : PixelFormat) (w h : ℕ) (s : Band) (n : ℕ) : Type 0 where
  pub band : IsBand f w h s
  pub from : s.first ≤ n
  pub before : n < s.end

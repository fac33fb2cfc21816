-- Parts of the code: pixels of a row that stand, and rows of planes.
use Rattle.std.specs.Prelude.{ℕ, ◌+◌, ◌*◌, ◌≤◌, ◌<◌, ◌≡◌, List, get_or, take}
use Rattle.geometry.specs.declared.PixelFormat.{PixelFormat}
use Rattle.geometry.specs.Sizes.{across, blocks_of, blocks_before}
use Rattle.geometry.specs.Order.{in_turn}
use Rattle.rgb.specs.declared.Run.{Run}
use Rattle.rgb.specs.Pixel.{colours}
use Rattle.rgb.specs.Picture.{chroma_column}

-- the colours of the pixel in column x of a row
abbrev pub pixel_at : (ℕ → ℕ) → (luma cb cr : List ℕ) → ℕ → List ℕ
pixel_at column luma cb cr x = colours (get_or luma x 0) (get_or cb (column x) 0) (get_or cr (column x) 0)

-- the first n pixels of a row stand at the front of a slice
abbrev pub Begun : (ℕ → ℕ) → (luma cb cr : List ℕ) → ℕ → List ℕ → Type 0
Begun column luma cb cr n out = take (3 * n) out ≡ in_turn (pixel_at column luma cb cr) n

-- each pixel of a row of n has its chroma samples
abbrev pub Reaches : PixelFormat → (n cb cr : ℕ) → Type 0
Reaches f n cb cr = (x : ℕ) → x < n → (chroma_column f x < cb) × (chroma_column f x < cr)

-- r is row y of plane p
pub record RunOf (f : PixelFormat) (w h p y : ℕ) (r : Run) : Type 0 where
  pub start : r.start ≡ 64 * blocks_before f w h p + y * (8 * across f w p)
  pub end : r.start + 8 * across f w p ≡ r.end
  pub inside : r.end ≤ 64 * blocks_of f w h

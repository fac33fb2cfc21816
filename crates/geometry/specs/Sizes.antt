-- The sizes of a frame of w by h macro blocks (FMBW by FMBH).
use Rattle.std.specs.Prelude.{ℕ, zero, suc, ◌+◌, ◌-◌, ◌*◌, ◌/◌}
use Rattle.geometry.specs.declared.PixelFormat.{PixelFormat}
use Rattle.geometry.specs.declared.PixelFormat.TheVariants.{Chroma420, Chroma422, Chroma444}
use Rattle.geometry.specs.declared.Plane.{Plane}
use Rattle.geometry.specs.declared.FrameSizes.{FrameSizes}

-- the most macro blocks across and up: FMBW and FMBH have 16 bits
abbrev pub largest : ℕ
largest = 65535

-- "4:2:0, 4:2:2 (half width), 4:4:4": the blocks across and up of a chroma plane; luma has two by two to a macro block
abbrev pub chroma_across : PixelFormat → ℕ → ℕ
chroma_across Chroma420 w = w
chroma_across Chroma422 w = w
chroma_across Chroma444 w = 2 * w

abbrev pub chroma_up : PixelFormat → ℕ → ℕ
chroma_up Chroma420 h = h
chroma_up Chroma422 h = 2 * h
chroma_up Chroma444 h = 2 * h

-- the blocks across and up of plane p: 0 is luma, 1 is Cb, 2 is Cr
abbrev pub across : PixelFormat → ℕ → ℕ → ℕ
across f w zero = 2 * w
across f w (suc p) = chroma_across f w

abbrev pub up : PixelFormat → ℕ → ℕ → ℕ
up f h zero = 2 * h
up f h (suc p) = chroma_up f h

-- how many squares of side s it takes to cover n: ceil (n / s)
abbrev pub squares : ℕ → ℕ → ℕ
squares s n = (n + (s - 1)) / s

-- the blocks and the super blocks of plane p: "ceil(blocks across/4)·ceil(blocks up/4)"
abbrev pub plane_blocks : PixelFormat → ℕ → ℕ → ℕ → ℕ
plane_blocks f w h p = up f h p * across f w p

abbrev pub plane_super_blocks : PixelFormat → ℕ → ℕ → ℕ → ℕ
plane_super_blocks f w h p = squares 4 (up f h p) * squares 4 (across f w p)

-- g 0 + g 1 + .. + g (n - 1)
unfoldable pub total : (ℕ → ℕ) → ℕ → ℕ
total g zero = 0
total g (suc n) = total g n + g n

-- "NMBS = FMBW·FMBH"; NBS and NSBS are sums over the three planes
abbrev pub macro_blocks_of : ℕ → ℕ → ℕ
macro_blocks_of w h = h * w

unfoldable pub blocks_of : PixelFormat → ℕ → ℕ → ℕ
blocks_of f w h = total (plane_blocks f w h) 3

unfoldable pub super_blocks_of : PixelFormat → ℕ → ℕ → ℕ
super_blocks_of f w h = total (plane_super_blocks f w h) 3

-- the blocks of the planes before plane p
unfoldable pub blocks_before : PixelFormat → ℕ → ℕ → ℕ → ℕ
blocks_before f w h p = total (plane_blocks f w h) p

-- "All three planes lie in one buffer, plane 0 first": 64 bytes to a block
abbrev pub plane_of : PixelFormat → ℕ → ℕ → ℕ → Plane
plane_of f w h p = record {
  across = across f w p;
  up = up f h p;
  offset = 64 * blocks_before f w h p;
  length = 64 * plane_blocks f w h p;
}

-- "Its length is 64·NBS"
abbrev pub sizes_of : PixelFormat → ℕ → ℕ → FrameSizes
sizes_of f w h = record {
  macro_blocks = macro_blocks_of w h;
  blocks = blocks_of f w h;
  super_blocks = super_blocks_of f w h;
  buffer = 64 * blocks_of f w h;
  luma = plane_of f w h 0;
  cb = plane_of f w h 1;
  cr = plane_of f w h 2;
}

-- "NBS = 6, 8 or 12 times that": blocks to a macro block
abbrev pub blocks_each : PixelFormat → ℕ
blocks_each Chroma420 = 6
blocks_each Chroma422 = 8
blocks_each Chroma444 = 12

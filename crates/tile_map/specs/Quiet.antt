-- Samples and blocks of a tile, for what is said of its byte. Plane p of a frame of w by h macro blocks, tiles of t by t samples.
use Rattle.std.specs.Prelude.{ℕ, ◌+◌, ◌*◌, ◌/◌, ◌%◌, ◌≤◌, ◌<◌, ◌≡◌, false, List, ◌⊎◌, ◌≢◌, get_or}
use Rattle.geometry.specs.declared.PixelFormat.{PixelFormat}
use Rattle.geometry.specs.declared.Block.{Block}
use Rattle.geometry.specs.Sizes.{across, up, squares as tiles}
use Rattle.geometry.specs.Frame.{InFrame, block}
use Rattle.geometry.specs.Sample.{sample_at}
use Rattle.ways.specs.Ways.{Picture, AlongCoded}
use Rattle.tile_map.specs.Tiles.{tile_map}

module _ (f : PixelFormat) (w h p t : ℕ) where
  -- tile (x, y) is one of the plane
  pub record IsOne (x y : ℕ) : Type 0 where
    pub column : x < tiles t (8 * across f w p)
    pub row : y < tiles t (8 * up f h p)

  -- its byte in the map
  abbrev pub byte_of : (previous new : List ℕ) → ℕ → ℕ → ℕ
  byte_of previous new x y = get_or (tile_map f w h p t previous new) (y * tiles t (8 * across f w p) + x) 0

  -- column c and row r of the plane lie in tile (x, y)
  pub record InTile (x y c r : ℕ) : Type 0 where
    pub left : t * x ≤ c
    pub right : c < t * x + t
    pub bottom : t * y ≤ r
    pub top : r < t * y + t

  pub record InPlane (c r : ℕ) : Type 0 where
    pub column : c < 8 * across f w p
    pub row : r < 8 * up f h p

  -- the sample there differs
  abbrev pub Differs : (previous new : List ℕ) → ℕ → ℕ → Type 0
  Differs previous new c r = let at = sample_at f w h (block p (c / 8) (r / 8)) (c % 8) (r % 8) in get_or new at 0 ≢ get_or previous at 0

  -- ---- "A tile that neither holds a coded block nor has one across any of its four sides"
  -- column or row n of blocks lies in the side of tile m
  abbrev pub Within : ℕ → ℕ → Type 0
  Within m n = (t * m ≤ 8 * n) × (8 * n < t * m + t)

  -- just outside
  abbrev pub Beside : ℕ → ℕ → Type 0
  Beside m n = (8 * n + 8 ≡ t * m) ⊎ (8 * n ≡ t * m + t)

  pub record Quiet (pic : Picture) (x y : ℕ) : Type 0 where
    pub holds_none : (b : Block) → b.plane ≡ p → InFrame f w h b → Within x b.x → Within y b.y → pic.coded b ≡ false
    pub left_or_right : (b : Block) → b.plane ≡ p → InFrame f w h b → Beside x b.x → Within y b.y → pic.coded b ≡ false
    pub below_or_above : (b : Block) → b.plane ≡ p → InFrame f w h b → Within x b.x → Beside y b.y → pic.coded b ≡ false

  -- "by the rules already shown": what demand 3 says of an accepted call, its last sentence
  abbrev pub Kept : Picture → (previous new : List ℕ) → Type 0
  Kept pic previous new =
      (b : Block) (c r : ℕ) → InFrame f w h b → c < 8 → r < 8 → pic.coded b ≡ false
      → get_or new (sample_at f w h b c r) 0 ≢ get_or previous (sample_at f w h b c r) 0 → AlongCoded f w h pic b c r

-- "one byte per tile ..: 1 if some sample of the tile differs from the previous frame, else 0"
use Rattle.std.specs.Prelude.{ℕ, zero, suc, ◌+◌, ◌*◌, ◌%◌, ◌≤◌, ◌<◌, ◌≡◌, Bool, false, not, ◌||◌, List, eqb, length, get_or}
use Rattle.bitstream.specs.Lists.{tabulated}
use Rattle.bitstream.specs.Reading.{choose}
use Rattle.geometry.specs.declared.PixelFormat.{PixelFormat}
use Rattle.geometry.specs.Sizes.{across, up, blocks_before, squares as tiles}
use Rattle.geometry.specs.Order.{in_turn}
use Rattle.geometry.specs.Square.{reach}

-- the test holds for some number below n
unfoldable pub some : ℕ → (ℕ → Bool) → Bool
some zero test = false
some (suc n) test = some n test || test n

-- some of the n samples from `at` on differs
unfoldable pub differ : (previous new : List ℕ) (at n : ℕ) → Bool
differ previous new at n = some n (λ i. not (eqb (get_or previous (at + i) 0) (get_or new (at + i) 0)))

abbrev pub flag : Bool → ℕ
flag b = choose b 1 0

-- ---- tiles of t by t samples, of a plane with `row` samples to a row. "Partial tiles at the right and top count as tiles": `reach` cuts them
-- of a strip of n rows, the first of which begins at `from`: some sample of tile x differs, in some row r
unfoldable pub changed_in : (from row n t : ℕ) (previous new : List ℕ) → ℕ → Bool
changed_in from row n t previous new x = some n (λ r. differ previous new (from + r * row + t * x) (reach t row x))

-- the bytes of its tiles, from the left
unfoldable pub strip_map : (from row n t : ℕ) (previous new : List ℕ) → List ℕ
strip_map from row n t previous new = tabulated (λ x. flag (changed_in from row n t previous new x)) 0 (tiles t row)

-- of a plane of so many rows that begins at `first`: strip y. "row by row from the bottom"
unfoldable pub plane_map : (first row rows t : ℕ) (previous new : List ℕ) → List ℕ
plane_map first row rows t previous new = in_turn (λ y. strip_map (first + t * y * row) row (reach t rows y) t previous new) (tiles t rows)

-- ---- the same of plane p of a frame of w by h macro blocks
module _ (f : PixelFormat) (w h p t : ℕ) where
  -- "one byte per tile"
  unfoldable pub map_length : ℕ
  map_length = tiles t (8 * up f h p) * tiles t (8 * across f w p)

  unfoldable pub tile_map : (previous new : List ℕ) → List ℕ
  tile_map = plane_map (64 * blocks_before f w h p) (8 * across f w p) (8 * up f h p) t

-- ---- what the functions between ask for, and do
-- a tile's side is whole blocks
abbrev pub IsTile : ℕ → Type 0
IsTile t = (0 < t) × (t % 8 ≡ 0) × (t ≤ 32)

-- n samples from `at` on are there in both
abbrev pub Both : (previous new : List ℕ) → ℕ → ℕ → Type 0
Both previous new at n = (at + n ≤ length previous) × (at + n ≤ length new)

-- every byte is 0 or 1
abbrev pub Flags : List ℕ → Type 0
Flags map = (x : ℕ) → x < length map → get_or map x 0 ≤ 1

-- the bytes of a strip's tiles after another row of samples, which begins at `from`: what was 1 stays 1
unfoldable pub marked : (previous new : List ℕ) (from row t : ℕ) → List ℕ → List ℕ
marked previous new from row t map = tabulated (λ x. choose (differ previous new (from + t * x) (reach t row x)) 1 (get_or map x 0)) 0 (length map)

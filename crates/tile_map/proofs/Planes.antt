-- The strips of a plane. Assumes nothing.
use Prim.Native.Nat.{ℕ, ◌+◌, ◌-◌, ◌*◌, ◌≤◌, ◌<◌}
use native.Mathlib.Nat.{add-mul, mul-le-mul, mul-le-mul_right, mul-mul-mul_comm, div-le_self, le_trans, le_of_eq}
use native.Mathlib.Omega.{arith}
use mathlib.Core.Path.{◌≡◌, refl, sym, ap, ◌∙◌}
use mathlib.Core.List.{List, ◌++◌}
use lib.ListN.{length, take}
use borrow.Rule.Slice.PartMut.{put_mid}
use Rattle.geometry.specs.declared.PixelFormat.{PixelFormat}
use Rattle.geometry.specs.declared.Plane.{Plane}
use Rattle.geometry.specs.Sizes.{across, up, plane_blocks, blocks_of, blocks_before, squares as tiles, plane_of}
use Rattle.geometry.specs.Order.{in_turn}
use Rattle.geometry.specs.Square.{reach}
use Rattle.geometry.proofs.SizeLaws.{before_next, before_to, across_small, up_small}
use Rattle.rows.proofs.Facts.{taken_more, in_turn_more}
use Rattle.tile_map.specs.Tiles.{strip_map, plane_map, map_length, tile_map, IsTile, Both}
use Rattle.tile_map.proofs.Strips.{reach_inside, strip_length}

-- strip y lies in the plane
module _ (row rows t y : ℕ) (there : y < tiles t rows) (tile : IsTile t) where
  pub strip_inside : t * y * row + reach t rows y * row ≤ rows * row
  strip_inside = le_trans (le_of_eq (sym (add-mul (t * y) (reach t rows y) row))) (mul-le-mul_right row (reach_inside t rows y there tile))

module _ (first row rows t : ℕ) (previous new : List ℕ) where
  abbrev pub strip_at : ℕ → List ℕ
  strip_at y = strip_map (first + t * y * row) row (reach t rows y) t previous new

  pub no_strip : (map : List ℕ) → take 0 map ≡ in_turn strip_at 0
  unfolding in_turn
  no_strip map = refl

  -- a strip more is written
  pub strips_more : (y at : ℕ) (map mid : List ℕ) → at + tiles t row ≤ length map → take at map ≡ in_turn strip_at y → mid ≡ strip_at y
      → take (at + tiles t row) (put_mid at (at + tiles t row - at) map mid) ≡ in_turn strip_at (y + 1)
  strips_more y at map mid room before e =
      let size : length mid ≡ tiles t row = ap (λ (l : List ℕ). length l) e ∙ strip_length previous new (first + t * y * row) row t (reach t rows y) in
      taken_more at (tiles t row) map mid (omega arith) size ∙ (λ i. before i ++ e i) ∙ sym (in_turn_more strip_at y)

-- ---- plane p of a frame, as a program comes to it
module _ (f : PixelFormat) (w h p : ℕ) (three : p < 3) where
  plane_inside : 64 * blocks_before f w h p + 8 * up f h p * (8 * across f w p) ≤ 64 * blocks_of f w h
  plane_inside =
      let a : 8 * up f h p * (8 * across f w p) ≡ 64 * plane_blocks f w h p = mul-mul-mul_comm 8 (up f h p) 8 (across f w p) in
      omega (arith, a, before_next f w h p, before_to f w h p three)

  module _ (hw : w ≤ 65535) (hh : h ≤ 65535) (q : Plane) (e : q ≡ plane_of f w h p) where
    pub plane_both : (previous new : List ℕ) → length previous ≡ 64 * blocks_of f w h → length new ≡ 64 * blocks_of f w h → Both previous new q.offset (8 * q.up * (8 * q.across))
    plane_both previous new ep en = rw e (omega (arith, plane_inside, ep), omega (arith, plane_inside, en))

    pub plane_row : q.across ≤ 131070
    plane_row = rw e (across_small f w p hw)

    pub plane_rows : q.up ≤ 131070
    plane_rows = rw e (up_small f h p hh)

    pub length_by : (t : ℕ) → tiles t (8 * q.up) * tiles t (8 * q.across) ≡ map_length f w h p t
    unfolding map_length
    length_by t = ap (λ (v : Plane). tiles t (8 * v.up) * tiles t (8 * v.across)) e

    pub map_by : (t : ℕ) (previous new : List ℕ) → plane_map q.offset (8 * q.across) (8 * q.up) t previous new ≡ tile_map f w h p t previous new
    unfolding tile_map
    map_by t previous new = ap (λ (v : Plane). plane_map v.offset (8 * v.across) (8 * v.up) t previous new) e

-- a quotient is at most what is divided
pub tiles_small : (t n : ℕ) → 0 < t → n ≤ 1048560 → t ≤ 32 → tiles t n ≤ 1048591
tiles_small t n some small few = le_trans (div-le_self (n + (t - 1)) t) (omega arith)

pub length_small : (a b : ℕ) → a ≤ 1048591 → b ≤ 1048591 → a * b ≤ 1099543085281
length_small a b ha hb = mul-le-mul ha hb

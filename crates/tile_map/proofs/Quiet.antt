-- A quiet tile is 0: "by the rules already shown", of which only demand 3's last sentence is used. Assumes nothing.
use Prim.Native.Nat.{ℕ, ◌+◌, ◌*◌, ◌/◌, ◌%◌, ◌<◌}
use native.Mathlib.Omega.{arith}
use native.Mathlib.Nat.{mod-lt, mul_assoc, eq-or-lt_of_le}
use mathlib.Core.Path.{◌≡◌, refl, sym, ap, ◌∙◌}
use mathlib.Core.Bool.{Bool, true, false, false≢true}
use mathlib.Core.List.{List}
use mathlib.Core.Logic.{◌⊎◌, inl, inr}
use Rattle.geometry.specs.declared.PixelFormat.{PixelFormat}
use Rattle.geometry.specs.declared.Block.{Block}
use Rattle.geometry.specs.Frame.{InFrame, block}
use Rattle.ways.specs.Ways.{Picture, AlongCoded, at_left, at_right, at_bottom, at_top, left_of, right_of, below, above}
use Rattle.tile_map.specs.Tiles.{IsTile}
use Rattle.tile_map.specs.Quiet.{IsOne, byte_of, Within, Quiet, Kept}
use Rattle.tile_map.proofs.Said.{none_0}

coded_not : {b : Bool} → b ≡ true → b ≡ false → ⊥
coded_not t n = false≢true (sym n ∙ t)

-- a tile begins with a block
pub tile_eights : (t m : ℕ) → t % 8 ≡ 0 → t * m ≡ 8 * (t / 8 * m)
tile_eights t m z = let e : t ≡ 8 * (t / 8) = omega arith in ap (λ (n : ℕ). n * m) e ∙ mul_assoc 8 (t / 8) m

module _ (f : PixelFormat) (w h p t : ℕ) (tile : IsTile t) (pic : Picture) (x y : ℕ) (q : Quiet f w h p t pic x y) where
  -- no block beside a block of a quiet tile is coded
  module _ (b : Block) (mine : b.plane ≡ p) (inside : InFrame f w h b) (col : Within f w h p t x b.x) (row : Within f w h p t y b.y) where
    abbrev ex : t * x ≡ 8 * (t / 8 * x)
    ex = tile_eights t x tile.1

    abbrev ey : t * y ≡ 8 * (t / 8 * y)
    ey = tile_eights t y tile.1

    left_by : (t * x ≡ 8 * b.x) ⊎ (t * x < 8 * b.x) → 0 < b.x → InFrame f w h (left_of b) → pic.coded (left_of b) ≡ false
    left_by (inl e) l there = q.left_or_right (left_of b) mine there (inl (omega arith)) row
    left_by (inr g) l there = q.holds_none (left_of b) mine there (omega (arith, ex), omega (arith, col.1)) row

    right_by : (8 * b.x + 8 ≡ t * x + t) ⊎ (8 * b.x + 8 < t * x + t) → InFrame f w h (right_of b) → pic.coded (right_of b) ≡ false
    right_by (inl e) there = q.left_or_right (right_of b) mine there (inr (omega arith)) row
    right_by (inr g) there = q.holds_none (right_of b) mine there (omega (arith, col.0), omega arith) row

    below_by : (t * y ≡ 8 * b.y) ⊎ (t * y < 8 * b.y) → 0 < b.y → InFrame f w h (below b) → pic.coded (below b) ≡ false
    below_by (inl e) l there = q.below_or_above (below b) mine there col (inl (omega arith))
    below_by (inr g) l there = q.holds_none (below b) mine there col (omega (arith, ey), omega (arith, row.1))

    above_by : (8 * b.y + 8 ≡ t * y + t) ⊎ (8 * b.y + 8 < t * y + t) → InFrame f w h (above b) → pic.coded (above b) ≡ false
    above_by (inl e) there = q.below_or_above (above b) mine there col (inr (omega arith))
    above_by (inr g) there = q.holds_none (above b) mine there col (omega (arith, row.0), omega arith)

    -- so a sample of the tile lies along no coded block
    not_along : (c r : ℕ) → AlongCoded f w h pic b c r → ⊥
    not_along c r (at_left z l t) =
        coded_not t (left_by (eq-or-lt_of_le col.0) l (record { of_three = inside.of_three; column = omega (arith, inside.column); row = inside.row }))
    not_along c r (at_right z l t) =
        coded_not t (right_by (eq-or-lt_of_le (omega (arith, col.1, ex, tile.1))) (record { of_three = inside.of_three; column = l; row = inside.row }))
    not_along c r (at_bottom z l t) =
        coded_not t (below_by (eq-or-lt_of_le row.0) l (record { of_three = inside.of_three; column = inside.column; row = omega (arith, inside.row) }))
    not_along c r (at_top z l t) =
        coded_not t (above_by (eq-or-lt_of_le (omega (arith, row.1, ey, tile.1))) (record { of_three = inside.of_three; column = inside.column; row = l }))

  -- "A tile that neither holds a coded block nor has one across any of its four sides must be 0"
  pub quiet_tile : (previous new : List ℕ) → Kept f w h p t pic previous new → p < 3 → IsOne f w h p t x y → byte_of f w h p t previous new x y ≡ 0
  quiet_tile previous new kept three o =
      none_0 f w h p t previous new x y o (λ c r i l d.
      let b = block p (c / 8) (r / 8) in
      let ax = tile_eights t x tile.1 in
      let ay = tile_eights t y tile.1 in
      let there : InFrame f w h b = record { of_three = three; column = omega (arith, l.column); row = omega (arith, l.row) } in
      let col : Within f w h p t x (c / 8) = (omega (arith, i.left), omega (arith, i.right, tile.1)) in
      let row : Within f w h p t y (r / 8) = (omega (arith, i.bottom), omega (arith, i.top, tile.1)) in
      not_along b refl there col row (c % 8) (r % 8) (kept b (c % 8) (r % 8) there (mod-lt c (omega arith)) (mod-lt r (omega arith)) (q.holds_none b refl there col row) d))

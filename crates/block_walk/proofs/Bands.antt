-- What a band says of its blocks. Assumes nothing.
use mathlib.Core.Path.{◌≡◌, refl, sym, ap, ◌∙◌, subst}
use Prim.Native.Nat.{ℕ, suc, ◌+◌, ◌-◌, ◌*◌, ◌/◌, ◌≤◌, ◌<◌}
use native.Mathlib.Nat.{suc-mul, mul-le-mul_right, lt_of_mul-lt-mul_right}
use native.Mathlib.Omega.{arith}
use Rattle.geometry.specs.declared.PixelFormat.{PixelFormat}
use Rattle.geometry.specs.declared.Plane.{Plane}
use Rattle.geometry.specs.declared.Block.{Block}
use Rattle.geometry.specs.Sizes.{across, up, blocks_of, blocks_before, plane_blocks, plane_of}
use Rattle.geometry.specs.Frame.{block, InFrame}
use Rattle.geometry.specs.Raster.{raster_number, block_no}
use Rattle.geometry.proofs.SizeLaws.{before_luma, before_next, up_small}
use Rattle.geometry.proofs.RasterLaws.{block_at_number, number_of_block}
use Rattle.block_walk.specs.declared.Band.{Band}
use Rattle.block_walk.specs.Band.{IsBand, InBand}

module _ (f : PixelFormat) (w h : ℕ) where
  -- the band of no block
  pub no_block : IsBand f w h (record { plane = 0; y = 0; first = 0; end = 0 })
  no_block = record {
    of_three = omega arith;
    start = omega (arith, before_luma f w h);
    in_plane = omega arith;
    four_rows = omega arith;
  }

  -- block n of a band, by its column and row
  module _ (s : Band) (n : ℕ) (i : InBand f w h s n) where
    in_rows : (x y : ℕ) → y * across f w s.plane + x ≡ s.y * across f w s.plane + (n - s.first) → y < up f h s.plane
    in_rows x y e = lt_of_mul-lt-mul_right (across f w s.plane) (omega (arith, e, i.from, i.before, i.band.start, i.band.in_plane, before_next f w h s.plane))

    pub row_small : h ≤ 65535 → s.y < 131070
    row_small l = omega (arith, in_rows (n - s.first) s.y refl, up_small f h s.plane l)

    numbered : (x y : ℕ) → y * across f w s.plane + x ≡ s.y * across f w s.plane + (n - s.first) → raster_number f w h (block s.plane x y) ≡ n
    unfolding raster_number
    numbered x y e = omega (arith, e, i.from, i.band.start)

    pub block_here : (x y : ℕ) → x < across f w s.plane → y * across f w s.plane + x ≡ s.y * across f w s.plane + (n - s.first) → block s.plane x y ≡ block_no f w h n
    block_here x y l e =
        let k : InFrame f w h (block s.plane x y) = record { of_three = i.band.of_three; column = l; row = in_rows x y e } in
        sym (block_at_number f w h (block s.plane x y) k) ∙ ap (block_no f w h) (numbered x y e)

  -- the band from block n's row on: b is the block, q its plane
  module _ (n : ℕ) (l : n < blocks_of f w h) (b : Block) (e : b ≡ block_no f w h n) where
    pub in_frame : InFrame f w h b
    in_frame = subst (InFrame f w h) (sym e) (number_of_block f w h n l).0

    row_start : blocks_before f w h b.plane + (b.y * across f w b.plane + b.x) ≡ n
    unfolding raster_number
    row_start = ap (raster_number f w h) e ∙ (number_of_block f w h n l).1

    pub column_below : b.x ≤ n
    column_below = omega (arith, row_start)

    module _ (q : Plane) (g : q ≡ plane_of f w h b.plane) where
      wide : q.across ≡ across f w b.plane
      wide = ap (λ (q : Plane). q.across) g

      behind : (q.offset + q.length) / 64 ≡ blocks_before f w h (suc b.plane)
      behind =
          let o : q.offset ≡ 64 * blocks_before f w h b.plane = ap (λ (q : Plane). q.offset) g in
          let m : q.length ≡ 64 * plane_blocks f w h b.plane = ap (λ (q : Plane). q.length) g in
          omega (arith, o, m, before_next f w h b.plane)

      pub in_four : n < n - b.x + 4 * q.across
      in_four = omega (arith, wide, column_below, in_frame.column)

      pub in_plane : n < (q.offset + q.length) / 64
      in_plane =
          omega (
            arith,
            behind,
            row_start,
            in_frame.column,
            before_next f w h b.plane,
            suc-mul b.y (across f w b.plane),
            mul-le-mul_right (across f w b.plane) in_frame.row,
          )

      pub from_row : (end : ℕ) → end ≤ (q.offset + q.length) / 64 → end ≤ n - b.x + 4 * q.across → n < end
          → InBand f w h (record { plane = b.plane; y = b.y; first = n - b.x; end = end }) n
      from_row end hp hr hn = record {
        band = record {
          of_three = in_frame.of_three;
          start = omega (arith, row_start);
          in_plane = omega (arith, behind, hp);
          four_rows = omega (arith, wide, hr);
        };
        from = omega (arith, column_below);
        before = hn;
      }

-- Raster numbers of blocks, both ways. Assumes nothing.
use mathlib.Core.Path.{◌≡◌, refl, sym, ap, ◌∙◌, subst}
use Prim.Native.Nat.{ℕ, suc, ◌+◌, ◌-◌, ◌*◌, ◌/◌, ◌%◌, ◌≤◌, ◌<◌}
use native.Mathlib.Omega.{arith}
use Rattle.geometry.specs.declared.PixelFormat.{PixelFormat}
use Rattle.geometry.specs.declared.Block.{Block}
use Rattle.geometry.specs.declared.Plane.{Plane}
use Rattle.geometry.specs.Sizes.{across, up, blocks_of, blocks_before, plane_of}
use Rattle.geometry.specs.Frame.{block, InFrame}
use Rattle.geometry.specs.Raster.{raster_number, raster, block_no}
use Rattle.geometry.proofs.Raster.{raster_below, raster_back}
use Rattle.geometry.proofs.Grids.{In, grid_at, grid_found}
use Rattle.geometry.proofs.SizeLaws.{before_next, before_to}

module _ (f : PixelFormat) (w h : ℕ) (b : Block) (k : InFrame f w h b) where
  pub raster_number_below : raster_number f w h b < blocks_of f w h
  unfolding raster_number
  raster_number_below =
      omega (
        arith,
        raster_below (across f w b.plane) (up f h b.plane) b.x b.y k.column k.row,
        before_next f w h b.plane,
        before_to f w h b.plane k.of_three,
      )

  -- over the numbers that a program has in its variables: q is the block's plane
  pub raster_by : (q : Plane) → q ≡ plane_of f w h b.plane
      → (q.offset / 64 + (b.y * q.across + b.x) ≡ raster_number f w h b) × (q.offset / 64 + (b.y * q.across + b.x) < blocks_of f w h)
  unfolding raster_number
  raster_by q e =
      let d : 64 * blocks_before f w h b.plane / 64 ≡ blocks_before f w h b.plane = omega arith in
      let l = raster_number_below in
      rw (e, d) (refl, l)

module _ (f : PixelFormat) (w h : ℕ) where
  abbrev as_in : (b : Block) → InFrame f w h b → In (across f w) (up f h) b.plane b.x b.y
  as_in b i = record { of_three = i.of_three; column = i.column; row = i.row }

  -- block b has its number, and each number has its block
  pub block_at_number : (b : Block) → InFrame f w h b → block_no f w h (raster_number f w h b) ≡ b
  unfolding block_no raster raster_number blocks_before
  block_at_number b i = grid_at (across f w) (up f h) block b.plane b.x b.y (block 0 0 0) (as_in b i)

  number_found : (n : ℕ) → n < blocks_of f w h → (b : Block) × InFrame f w h b × (raster_number f w h b ≡ n)
  unfolding raster_number blocks_before blocks_of
  number_found n l =
      let t = grid_found (across f w) (up f h) n l in
      (block t.0 t.1 t.2, record { of_three = t.3.of_three; column = t.3.column; row = t.3.row }, t.4)

  pub number_of_block : (n : ℕ) → n < blocks_of f w h → InFrame f w h (block_no f w h n) × (raster_number f w h (block_no f w h n) ≡ n)
  number_of_block n l =
      let t = number_found n l in
      let e : t.0 ≡ block_no f w h n = sym (block_at_number t.0 t.1) ∙ ap (block_no f w h) t.2 in
      (subst (InFrame f w h) e t.1, ap (raster_number f w h) (sym e) ∙ t.2)

  -- the number of a plane's first block
  pub first_number : (p : ℕ) (q : Plane) → q ≡ plane_of f w h p → q.offset / 64 ≡ blocks_before f w h p
  first_number p q e = let o : q.offset ≡ 64 * blocks_before f w h p = ap (λ (q : Plane). q.offset) e in omega arith

  numbered : (p i n : ℕ) → i / across f w p * across f w p + i % across f w p ≡ i → blocks_before f w h p + i ≡ n → raster_number f w h (block p (i % across f w p) (i / across f w p)) ≡ n
  unfolding raster_number
  numbered p i n e l = omega arith

  -- number n of plane p
  pub number_in : (p n : ℕ) (q : Plane) → p < 3 → q ≡ plane_of f w h p → blocks_before f w h p ≤ n → n < blocks_before f w h (suc p)
      → (0 < q.across) × (q.offset / 64 ≤ n) × (block p ((n - q.offset / 64) % q.across) ((n - q.offset / 64) / q.across) ≡ block_no f w h n)
  number_in p n q hp e lo hi =
      let a : q.across ≡ across f w p = ap (λ (q : Plane). q.across) e in
      let d = first_number p q e in
      let i = n - blocks_before f w h p in
      let b = raster_back (across f w p) (up f h p) i (omega (arith, before_next f w h p)) in
      let s : n - q.offset / 64 ≡ i = omega arith in
      let here : Block = block p (i % across f w p) (i / across f w p) in
      let k : InFrame f w h here = record { of_three = hp; column = b.1; row = b.2 } in
      let m : raster_number f w h here ≡ n = numbered p i n b.3 (omega arith) in (
        subst (λ (m : ℕ). 0 < m) (sym a) b.0,
        omega arith,
        (λ j. block p (s j % a j) (s j / a j)) ∙ sym (block_at_number here k) ∙ ap (block_no f w h) m,
      )

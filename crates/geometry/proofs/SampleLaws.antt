-- The samples of a frame: inside the buffer, all different, and every byte is one.
use mathlib.Core.Path.{◌≡◌, refl, sym, ap, ◌∙◌}
use Prim.Native.Nat.{ℕ, suc, ◌+◌, ◌-◌, ◌*◌, ◌/◌, ◌%◌, ◌≤◌, ◌<◌}
use native.Mathlib.Nat.{mul-mul-mul_comm}
use native.Mathlib.Omega.{arith}
use Rattle.geometry.specs.declared.PixelFormat.{PixelFormat}
use Rattle.geometry.specs.declared.Block.{Block}
use Rattle.geometry.specs.declared.Plane.{Plane}
use Rattle.geometry.specs.Sizes.{across, up, plane_blocks, blocks_before, blocks_of, plane_of}
use Rattle.geometry.specs.Frame.{block, InFrame}
use Rattle.geometry.specs.Sample.{Sample, sample_in, sample_at, LiesAt}
use Rattle.geometry.proofs.Sums.{part_of, total_once}
use Rattle.geometry.proofs.Raster.{raster_below, raster_once, raster_back}
use Rattle.geometry.proofs.SizeLaws.{before_next, before_to}

-- ---- one plane, of w by h blocks
area : (w h : ℕ) → 8 * h * (8 * w) ≡ 64 * (h * w)
area w h = mul-mul-mul_comm 8 h 8 w

pub plane_below : (w h x y c r : ℕ) → x < w → y < h → c < 8 → r < 8 → sample_in w x y c r < 64 * (h * w)
unfolding sample_in
plane_below w h x y c r hx hy hc hr = omega (arith, area w h, raster_below (8 * w) (8 * h) (8 * x + c) (8 * y + r) (omega arith) (omega arith))

pub plane_once : (w x y c r x' y' c' r' : ℕ) → x < w → c < 8 → r < 8 → x' < w → c' < 8 → r' < 8
    → sample_in w x y c r ≡ sample_in w x' y' c' r' → (x ≡ x') × (y ≡ y') × (c ≡ c') × (r ≡ r')
unfolding sample_in
plane_once w x y c r x' y' c' r' hx hc hr hx' hc' hr' e =
    let p = raster_once (8 * w) (8 * x + c) (8 * y + r) (8 * x' + c') (8 * y' + r') (omega arith) (omega arith) e in
    (omega arith, omega arith, omega arith, omega arith)

pub plane_hit : (w h o : ℕ) → o < 64 * (h * w)
    → (0 < 8 * w) × (o % (8 * w) / 8 < w) × (o / (8 * w) / 8 < h) × (sample_in w (o % (8 * w) / 8) (o / (8 * w) / 8) (o % (8 * w) % 8) (o / (8 * w) % 8) ≡ o)
unfolding sample_in
plane_hit w h o ho =
    let b = raster_back (8 * w) (8 * h) o (omega (arith, area w h)) in
    let e : 8 * (o / (8 * w) / 8) + o / (8 * w) % 8 ≡ o / (8 * w) = omega arith in
    let f : 8 * (o % (8 * w) / 8) + o % (8 * w) % 8 ≡ o % (8 * w) = omega arith in
    (b.0, omega arith, omega arith, rw (e, f) b.3)

-- ---- the frame
abbrev sample : Block → ℕ → ℕ → Sample
sample b c r = record { block = b; column = c; row = r }

module _ (f : PixelFormat) (w h : ℕ) where
  module _ (b : Block) (c r : ℕ) (k : InFrame f w h b) (hc : c < 8) (hr : r < 8) where
    in_plane_below : sample_in (across f w b.plane) b.x b.y c r < 64 * plane_blocks f w h b.plane
    in_plane_below = plane_below (across f w b.plane) (up f h b.plane) b.x b.y c r k.column k.row hc hr

    pub sample_below : sample_at f w h b c r < 64 * blocks_of f w h
    unfolding sample_at
    sample_below = omega (arith, in_plane_below, before_next f w h b.plane, before_to f w h b.plane k.of_three)

  -- different samples lie at different places
  pub sample_once : (b b' : Block) (c r c' r' : ℕ) → InFrame f w h b → c < 8 → r < 8 → InFrame f w h b' → c' < 8 → r' < 8
      → sample_at f w h b c r ≡ sample_at f w h b' c' r' → (b ≡ b') × (c ≡ c') × (r ≡ r')
  unfolding sample_at blocks_before
  sample_once b b' c r c' r' k hc hr k' hc' hr' e =
      let s = sample_in (across f w b.plane) b.x b.y c r in
      let s' = sample_in (across f w b'.plane) b'.x b'.y c' r' in
      let l = in_plane_below b c r k hc hr in
      let l' = in_plane_below b' c' r' k' hc' hr' in
      let p = total_once (plane_blocks f w h) b.plane (s / 64) b'.plane (s' / 64) (omega arith) (omega arith) (omega arith) in
      let t : blocks_before f w h b.plane ≡ blocks_before f w h b'.plane = ap (blocks_before f w h) p.0 in
      let a : across f w b.plane ≡ across f w b'.plane = ap (across f w) p.0 in
      let d : s ≡ s' = omega arith in
      let d' : sample_in (across f w b'.plane) b.x b.y c r ≡ s' = ap (λ (n : ℕ). sample_in n b.x b.y c r) (sym a) ∙ d in
      let q = plane_once (across f w b'.plane) b.x b.y c r b'.x b'.y c' r' (omega (arith, k.column, a)) hc hr k'.column hc' hr' d' in
      (λ i. block (p.0 i) (q.0 i) (q.1 i), q.2, q.3)

  -- the sample at o, which lies in plane p
  module _ (p o : ℕ) (hp : p < 3) (hl : blocks_before f w h p ≤ o / 64) (hu : o / 64 < blocks_before f w h (suc p)) where
    rest_below : o - 64 * blocks_before f w h p < 64 * plane_blocks f w h p
    rest_below = omega (arith, before_next f w h p)

    pub lies_at : let i = o - 64 * blocks_before f w h p in let n = 8 * across f w p in
        (0 < n) × (64 * blocks_before f w h p ≤ o) × LiesAt f w h o (sample (block p (i % n / 8) (i / n / 8)) (i % n % 8) (i / n % 8))
    unfolding sample_at
    lies_at =
        let i = o - 64 * blocks_before f w h p in
        let t = plane_hit (across f w p) (up f h p) i rest_below in (
          t.0,
          omega arith,
          record {
            in_frame = record { of_three = hp; column = t.1; row = t.2 };
            column = omega arith;
            row = omega arith;
            lies = omega (arith, t.3);
          },
        )

  -- every byte of the buffer is a sample
  pub sample_hit : (o : ℕ) → o < 64 * blocks_of f w h → (s : Sample) × LiesAt f w h o s
  unfolding blocks_of blocks_before
  sample_hit o ho =
      let s = part_of (plane_blocks f w h) 3 (o / 64) (omega arith) in
      let n = before_next f w h s.of in
      (_, (lies_at s.of o s.of_below (omega (arith, s.sum)) (omega (arith, s.sum, s.rest_below))).2)

-- over the numbers that a program has in its variables: q is b's plane
module _ (f : PixelFormat) (w h : ℕ) (b : Block) (c r : ℕ) (k : InFrame f w h b) (hc : c < 8) (hr : r < 8) (q : Plane) (e : q ≡ plane_of f w h b.plane) where
  pub offset_by : let o = q.offset + ((8 * b.y + r) * (8 * q.across) + (8 * b.x + c)) in (o ≡ sample_at f w h b c r) × (o < 64 * blocks_of f w h)
  unfolding sample_at sample_in
  offset_by = rw e (refl, sample_below f w h b c r k hc hr)

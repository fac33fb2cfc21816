-- The sizes: sums over the planes, 6, 8 or 12 blocks to a macro block, and the bounds at 65,535 by 65,535.
use mathlib.Core.Path.{◌≡◌, refl, ap, ◌∙◌}
use Prim.Native.Nat.{ℕ, zero, suc, ◌+◌, ◌*◌, ◌/◌, ◌≤◌, ◌<◌}
use native.Mathlib.Nat.{mul-mul-mul_comm, mul_assoc, mul-le-mul}
use native.Mathlib.Omega.{arith}
use Rattle.geometry.specs.declared.PixelFormat.{PixelFormat}
use Rattle.geometry.specs.declared.PixelFormat.TheVariants.{Chroma420, Chroma422, Chroma444}
use Rattle.geometry.specs.declared.Plane.{Plane}
use Rattle.geometry.specs.declared.FrameSizes.{FrameSizes}
use Rattle.geometry.specs.Sizes.{chroma_across, chroma_up, across, up, squares, total, plane_blocks, plane_super_blocks, macro_blocks_of, blocks_of, super_blocks_of, blocks_before, plane_of, sizes_of, blocks_each}

-- the blocks before each plane
module _ (f : PixelFormat) (w h : ℕ) where
  pub before_luma : blocks_before f w h 0 ≡ 0
  unfolding blocks_before total
  before_luma = refl

  pub before_next : (p : ℕ) → blocks_before f w h (suc p) ≡ blocks_before f w h p + plane_blocks f w h p
  unfolding blocks_before total
  before_next p = refl

  pub before_all : blocks_before f w h 3 ≡ blocks_of f w h
  unfolding blocks_before blocks_of
  before_all = refl

  pub before_planes : (blocks_before f w h 1 ≡ plane_blocks f w h 0)
      × (blocks_before f w h 2 ≡ plane_blocks f w h 0 + plane_blocks f w h 1)
      × (blocks_of f w h ≡ plane_blocks f w h 0 + plane_blocks f w h 1 + plane_blocks f w h 2)
  before_planes =
      let a = before_next 0 in
      let b = before_next 1 in
      let c = before_next 2 in
      (omega (arith, before_luma), omega (arith, before_luma), omega (arith, before_luma, before_all))

  -- the planes up to p lie in the frame
  pub before_to : (p : ℕ) → p < 3 → blocks_before f w h (suc p) ≤ blocks_of f w h
  before_to zero l = omega (arith, before_next 1, before_next 2, before_all)
  before_to (suc zero) l = omega (arith, before_next 2, before_all)
  before_to (suc (suc zero)) l = omega (arith, before_all)
  before_to (suc (suc (suc p))) l = absurd (omega arith)

pub blocks_each_law : (f : PixelFormat) (w h : ℕ) → blocks_of f w h ≡ blocks_each f * macro_blocks_of w h
blocks_each_law Chroma420 w h = omega (arith, (before_planes Chroma420 w h).2, mul-mul-mul_comm 2 h 2 w)
blocks_each_law Chroma422 w h = omega (arith, (before_planes Chroma422 w h).2, mul-mul-mul_comm 2 h 2 w, mul_assoc 2 h w)
blocks_each_law Chroma444 w h = omega (arith, (before_planes Chroma444 w h).2, mul-mul-mul_comm 2 h 2 w)

-- ---- bounds, for at most 65,535 macro blocks each way
pub across_small : (f : PixelFormat) (w p : ℕ) → w ≤ 65535 → across f w p ≤ 131070
across_small f w zero hw = omega arith
across_small Chroma420 w (suc p) hw = omega arith
across_small Chroma422 w (suc p) hw = omega arith
across_small Chroma444 w (suc p) hw = omega arith

pub up_small : (f : PixelFormat) (h p : ℕ) → h ≤ 65535 → up f h p ≤ 131070
up_small f h zero hh = omega arith
up_small Chroma420 h (suc p) hh = omega arith
up_small Chroma422 h (suc p) hh = omega arith
up_small Chroma444 h (suc p) hh = omega arith

pub super_blocks_small : (a b : ℕ) → a ≤ 131070 → b ≤ 131070 → squares 4 b * squares 4 a ≤ 1073741824
super_blocks_small a b ha hb = mul-le-mul {n₂ = 32768} {m₂ = 32768} (omega arith) (omega arith)

each_small : (f : PixelFormat) → blocks_each f ≤ 12
each_small Chroma420 = omega arith
each_small Chroma422 = omega arith
each_small Chroma444 = omega arith

pub record SizesSmall (f : PixelFormat) (w h : ℕ) : Type 0 where
  pub macro_blocks : macro_blocks_of w h ≤ 4294836225
  pub blocks : blocks_of f w h ≤ 51538034700
  pub super_blocks : super_blocks_of f w h ≤ 3221225472
  -- below 2 to the 42
  pub buffer : 64 * blocks_of f w h ≤ 3298434220800

module _ (f : PixelFormat) (w h : ℕ) (hw : w ≤ 65535) (hh : h ≤ 65535) where
  macros_small : macro_blocks_of w h ≤ 4294836225
  macros_small = mul-le-mul hh hw

  blocks_small : blocks_of f w h ≤ 51538034700
  blocks_small = omega (arith, blocks_each_law f w h, times (blocks_each f) (macro_blocks_of w h) (each_small f) macros_small)
    where
      times : (s n : ℕ) → s ≤ 12 → n ≤ 4294836225 → s * n ≤ 51538034700
      times s n hs hn = mul-le-mul hs hn

  plane_super_blocks_small : (p : ℕ) → plane_super_blocks f w h p ≤ 1073741824
  plane_super_blocks_small p = super_blocks_small (across f w p) (up f h p) (across_small f w p hw) (up_small f h p hh)

  all_super_blocks_small : super_blocks_of f w h ≤ 3221225472
  unfolding super_blocks_of total
  all_super_blocks_small = omega (arith, plane_super_blocks_small 0, plane_super_blocks_small 1, plane_super_blocks_small 2)

  pub sizes_small : SizesSmall f w h
  sizes_small = record {
    macro_blocks = macros_small;
    blocks = blocks_small;
    super_blocks = all_super_blocks_small;
    buffer = omega (arith, blocks_small);
  }

-- ---- the three planes, as a program comes to them
abbrev pub plane : ℕ → ℕ → ℕ → ℕ → Plane
plane a b o n = record { across = a; up = b; offset = o; length = n }

module _ (f : PixelFormat) (w h : ℕ) where
  pub luma_plane : (p : ℕ) → p ≡ 0 → plane (2 * w) (2 * h) 0 (64 * (2 * h * (2 * w))) ≡ plane_of f w h p
  luma_plane zero e =
      let o : 0 ≡ 64 * blocks_before f w h 0 = omega (arith, before_luma f w h) in
      ap (λ (k : ℕ). plane (2 * w) (2 * h) k (64 * (2 * h * (2 * w)))) o
  luma_plane (suc p) e = absurd (omega arith)

  module _ (a b : ℕ) (ea : a ≡ chroma_across f w) (eb : b ≡ chroma_up f h) where
    chroma_blocks : b * a ≡ plane_blocks f w h 1
    chroma_blocks = λ i. eb i * ea i

    pub cb_plane : (p : ℕ) → p ≡ 1 → plane a b (64 * (2 * h * (2 * w))) (64 * (b * a)) ≡ plane_of f w h p
    cb_plane zero e = absurd (omega arith)
    cb_plane (suc zero) e =
        let o : 64 * (2 * h * (2 * w)) ≡ 64 * blocks_before f w h 1 = omega (arith, (before_planes f w h).0) in
        λ i. plane (ea i) (eb i) (o i) (64 * (eb i * ea i))
    cb_plane (suc (suc p)) e = absurd (omega arith)

    pub cr_plane : (p : ℕ) → p < 3 → (p ≡ 0 → ⊥) → (p ≡ 1 → ⊥) → plane a b (64 * (2 * h * (2 * w) + b * a)) (64 * (b * a)) ≡ plane_of f w h p
    cr_plane zero l n m = absurd (n refl)
    cr_plane (suc zero) l n m = absurd (m refl)
    cr_plane (suc (suc zero)) l n m =
        let o : 64 * (2 * h * (2 * w) + b * a) ≡ 64 * blocks_before f w h 2 = omega (arith, (before_planes f w h).1, chroma_blocks) in
        λ i. plane (ea i) (eb i) (o i) (64 * (eb i * ea i))
    cr_plane (suc (suc (suc p))) l n m = absurd (omega arith)

-- ---- a plane and all sizes, over the numbers that a program has in its variables
pub record PlaneSmall (q : Plane) : Type 0 where
  pub across : q.across ≤ 131070
  pub up : q.up ≤ 131070
  pub buffer : q.offset + q.length ≤ 3298434220800

module _ (f : PixelFormat) (w h : ℕ) (hw : w ≤ 65535) (hh : h ≤ 65535) where
  pub plane_of_small : (q : Plane) (p : ℕ) → p < 3 → q ≡ plane_of f w h p → PlaneSmall q
  plane_of_small q p hp e =
      rw e (record {
        across = across_small f w p hw;
        up = up_small f h p hh;
        buffer = omega (arith, (sizes_small f w h hw hh).buffer, before_next f w h p, before_to f w h p hp);
      })

module _ (f : PixelFormat) (w h : ℕ) (l b r : Plane) (n m : ℕ) (el : l ≡ plane_of f w h 0) (eb : b ≡ plane_of f w h 1) (er : r ≡ plane_of f w h 2) where
  buffer_by : r.offset + r.length ≡ 64 * blocks_of f w h
  buffer_by = ap (λ (p : Plane). p.offset + p.length) er ∙ omega (arith, before_next f w h 2, before_all f w h)

  super_blocks_by : n ≡ squares 4 l.up * squares 4 l.across → m ≡ squares 4 b.up * squares 4 b.across → n + m + m ≡ super_blocks_of f w h
  unfolding super_blocks_of total
  super_blocks_by en em =
      let x = en ∙ ap (λ (p : Plane). squares 4 p.up * squares 4 p.across) el in
      let y = em ∙ ap (λ (p : Plane). squares 4 p.up * squares 4 p.across) eb in
      omega arith

  pub sizes_by : n ≡ squares 4 l.up * squares 4 l.across → m ≡ squares 4 b.up * squares 4 b.across
      → ◌≡◌ {A = FrameSizes} (record {
        macro_blocks = h * w;
        blocks = (r.offset + r.length) / 64;
        super_blocks = n + m + m;
        buffer = r.offset + r.length;
        luma = l;
        cb = b;
        cr = r;
      }) (sizes_of f w h)
  sizes_by en em =
      let o = buffer_by in
      let s = super_blocks_by en em in
      let d : (r.offset + r.length) / 64 ≡ blocks_of f w h = omega arith in
      λ i. record {
        macro_blocks = h * w;
        blocks = d i;
        super_blocks = s i;
        buffer = o i;
        luma = el i;
        cb = eb i;
        cr = er i;
      }

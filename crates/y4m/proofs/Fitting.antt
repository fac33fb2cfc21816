-- Numbers of a header that fit, and what follows for the sizes of frames. Assumes nothing.
use Prim.Native.Nat.{ℕ, ◌*◌, ◌/◌, ◌%◌, ◌≤◌, ◌<◌}
use native.Mathlib.Omega.{arith}
use native.Mathlib.Nat.{mul-pos}
use mathlib.Core.Path.{◌≡◌, refl}
use mathlib.Core.Bool.{Bool, true, false, ◌&&◌, ◌||◌}
use mathlib.Core.Logic.{◌⊎◌, inl, inr}
use lib.Dec.{eqb, leb}
use borrow.Author.Tests.{eqb-true, leb-true}
use Rattle.geometry.specs.declared.PixelFormat.{PixelFormat}
use Rattle.geometry.specs.declared.PixelFormat.TheVariants.{Chroma420, Chroma422, Chroma444}
use Rattle.geometry.specs.Sizes.{blocks_each, macro_blocks_of}
use Rattle.geometry.proofs.SizeLaws.{blocks_each_law, sizes_small}
use Rattle.headers.specs.Sizes.{format_of}
use Rattle.text.proofs.Texts.{and_left, and_right}
use Rattle.stream_numbers.specs.declared.Numbers.{Numbers}
use Rattle.y4m.specs.Stream.{wide, high, frame_bytes}
use Rattle.y4m.specs.Film.{size_fits, rate_fits, aspect_fits, format_fits, numbers_fit}

pub or_cases : (a b : Bool) → a || b ≡ true → (a ≡ true) ⊎ (b ≡ true)
or_cases true b h = inl refl
or_cases false b h = inr h

-- a width or a height: 1 to 65,535 macro blocks
pub record Size (v : ℕ) : Type 0 where
  pub some : 1 ≤ v / 16
  pub most : v / 16 ≤ 65535
  pub is : v ≡ 16 * (v / 16)

size_fits_law : (v : ℕ) → size_fits v ≡ true → Size v
size_fits_law v h =
    let z = eqb-true (v % 16) 0 (and_left (eqb (v % 16) 0) (leb 16 v && leb v 1048560) h) in
    let b = and_right (eqb (v % 16) 0) (leb 16 v && leb v 1048560) h in
    let low = leb-true 16 v (and_left (leb 16 v) (leb v 1048560) b) in
    let top = leb-true v 1048560 (and_right (leb 16 v) (leb v 1048560) b) in
    record { some = omega arith; most = omega arith; is = omega arith }

pub record Between (low v top : ℕ) : Type 0 where
  pub least : low ≤ v
  pub most : v ≤ top

between : (low v top : ℕ) → leb low v && leb v top ≡ true → Between low v top
between low v top h = record { least = leb-true low v (and_left (leb low v) (leb v top) h); most = leb-true v top (and_right (leb low v) (leb v top) h) }

abbrev pub Aspects : ℕ → ℕ → Type 0
Aspects a b = ((a ≡ 0) × (b ≡ 0)) ⊎ (Between 1 a 16777215 × Between 1 b 16777215)

aspects : (a b : ℕ) → aspect_fits a b ≡ true → Aspects a b
aspects a b h = by (or_cases (eqb a 0 && eqb b 0) ((leb 1 a && leb a 16777215) && (leb 1 b && leb b 16777215)) h)
  where
    by : (eqb a 0 && eqb b 0 ≡ true) ⊎ ((leb 1 a && leb a 16777215) && (leb 1 b && leb b 16777215) ≡ true) → Aspects a b
    by (inl e) = inl (eqb-true a 0 (and_left (eqb a 0) (eqb b 0) e), eqb-true b 0 (and_right (eqb a 0) (eqb b 0) e))
    by (inr e) = inr (between 1 a 16777215 (and_left (leb 1 a && leb a 16777215) (leb 1 b && leb b 16777215) e), between 1 b 16777215 (and_right (leb 1 a && leb a 16777215) (leb 1 b && leb b 16777215) e))

aspect_most : {a b : ℕ} → Aspects a b → (a ≤ 16777215) × (b ≤ 16777215)
aspect_most (inl e) = (omega (arith, e.0), omega (arith, e.1))
aspect_most (inr e) = (e.0.most, e.1.most)

abbrev pub Format : ℕ → Type 0
Format pf = (pf ≡ 0) ⊎ ((pf ≡ 2) ⊎ (pf ≡ 3))

formats : (pf : ℕ) → format_fits pf ≡ true → Format pf
formats pf h = by (or_cases (eqb pf 0) (eqb pf 2 || eqb pf 3) h)
  where
    other : (eqb pf 2 ≡ true) ⊎ (eqb pf 3 ≡ true) → (pf ≡ 2) ⊎ (pf ≡ 3)
    other (inl e) = inl (eqb-true pf 2 e)
    other (inr e) = inr (eqb-true pf 3 e)

    by : (eqb pf 0 ≡ true) ⊎ (eqb pf 2 || eqb pf 3 ≡ true) → Format pf
    by (inl e) = inl (eqb-true pf 0 e)
    by (inr e) = inr (other (or_cases (eqb pf 2) (eqb pf 3) e))

pub record Fit (n : Numbers) : Type 0 where
  pub width : Size n.width
  pub height : Size n.height
  pub frn : Between 1 n.frn 4294967295
  pub frd : Between 1 n.frd 4294967295
  pub aspect : Aspects n.parn n.pard
  pub aspect_small : (n.parn ≤ 16777215) × (n.pard ≤ 16777215)
  pub format : Format n.pf

pub fit : (n : Numbers) → numbers_fit n ≡ true → Fit n
unfolding numbers_fit
fit n h =
    let sizes = size_fits n.width && size_fits n.height in
    let rates = rate_fits n.frn && rate_fits n.frd in
    let last = aspect_fits n.parn n.pard && format_fits n.pf in
    let s = and_left sizes (rates && last) h in
    let r = and_left rates last (and_right sizes (rates && last) h) in
    let l = and_right rates last (and_right sizes (rates && last) h) in
    let a = aspects n.parn n.pard (and_left (aspect_fits n.parn n.pard) (format_fits n.pf) l) in record {
      width = size_fits_law n.width (and_left (size_fits n.width) (size_fits n.height) s);
      height = size_fits_law n.height (and_right (size_fits n.width) (size_fits n.height) s);
      frn = between 1 n.frn 4294967295 (and_left (rate_fits n.frn) (rate_fits n.frd) r);
      frd = between 1 n.frd 4294967295 (and_right (rate_fits n.frn) (rate_fits n.frd) r);
      aspect = a;
      aspect_small = aspect_most a;
      format = formats n.pf (and_right (aspect_fits n.parn n.pard) (format_fits n.pf) l);
    }

-- ---- the bytes of a frame's planes
blocks_some : (f : PixelFormat) (m : ℕ) → 0 < m → 0 < blocks_each f * m
blocks_some Chroma420 m h = omega arith
blocks_some Chroma422 m h = omega arith
blocks_some Chroma444 m h = omega arith

pub bytes_some : (n : Numbers) → numbers_fit n ≡ true → (0 < frame_bytes n) × (frame_bytes n ≤ 3298434220800)
unfolding frame_bytes
bytes_some n h =
    let f = fit n h in
    let some = blocks_some (format_of n.pf) (macro_blocks_of (wide n) (high n)) (mul-pos f.height.some f.width.some) in
    (omega (arith, some, blocks_each_law (format_of n.pf) (wide n) (high n)), (sizes_small (format_of n.pf) (wide n) (high n) f.width.most f.height.most).buffer)

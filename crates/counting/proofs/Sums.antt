-- What the counts of a frame add up to: for each plane its blocks, over all planes NBS, and over the modes of an inter frame its macro blocks. Assumes nothing.
use Prim.Native.Nat.{ℕ, zero, suc, ◌+◌, ◌<◌}
use native.Mathlib.Omega.{arith}
use native.Mathlib.Nat.{zero-add}
use mathlib.Core.Path.{◌≡◌, refl, ap, ◌∙◌}
use mathlib.Core.List.{List, [], ◌∷◌}
use mathlib.Core.Logic.{inl, inr}
use lib.Dec.{eqb}
use lib.ListN.{length, get_or, replicate}
use Rattle.bitstream.specs.Reading.{choose}
use Rattle.bitstream.specs.Lists.{tabulated, one, AllBelow, Once}
use Rattle.bitstream.proofs.Lists.{tabulated_at}
use Rattle.geometry.specs.declared.PixelFormat.{PixelFormat}
use Rattle.geometry.specs.Sizes.{plane_blocks, blocks_of}
use Rattle.geometry.proofs.SizeLaws.{before_planes}
use Rattle.frame_header.specs.declared.Kind.{Kind}
use Rattle.frame_header.specs.declared.Kind.TheVariants.{Intra, Inter, Repeat}
use Rattle.counting.specs.declared.Counts.{Counts}
use Rattle.counting.specs.Counts.{count, sum, Codes, coded_in, uncoded_in, mode_count, mode_counts, no_counts, frame_counts}
use Rattle.counting.proofs.Planes.{coded_few}

-- ---- the blocks
module _ (f : PixelFormat) (w h : ℕ) (coded : List ℕ) (once : Once coded) where
  pub both_in : (p : ℕ) → coded_in f w h coded p + uncoded_in f w h coded p ≡ plane_blocks f w h p
  both_in p = omega (arith, coded_few f w h coded once p)

-- ---- the modes
sum_both : (g k : ℕ → ℕ) (from n : ℕ) → sum (tabulated (λ m. g m + k m) from n) ≡ sum (tabulated g from n) + sum (tabulated k from n)
unfolding tabulated sum
sum_both g k from zero = refl
sum_both g k from (suc n) = omega (arith, sum_both g k (from + 1) n)

-- each of the eight is one of the eight
sum_one : (x : ℕ) → x < 8 → sum (tabulated (λ m. choose (eqb x m) 1 0) 0 8) ≡ 1
unfolding tabulated sum
sum_one zero h = refl
sum_one (suc zero) h = refl
sum_one (suc (suc zero)) h = refl
sum_one (suc (suc (suc zero))) h = refl
sum_one (suc (suc (suc (suc zero)))) h = refl
sum_one (suc (suc (suc (suc (suc zero))))) h = refl
sum_one (suc (suc (suc (suc (suc (suc zero)))))) h = refl
sum_one (suc (suc (suc (suc (suc (suc (suc zero))))))) h = refl
sum_one (suc (suc (suc (suc (suc (suc (suc (suc x)))))))) h = absurd (omega arith)

sum_eight : sum (tabulated (λ m. 0) 0 8) ≡ 0
unfolding tabulated sum
sum_eight = refl

sum_modes : (modes : List ℕ) → AllBelow 8 modes → sum (mode_counts modes) ≡ length modes
unfolding count
sum_modes [] a = sum_eight
sum_modes (x ∷ l) (one h a) = omega (arith, sum_both (λ m. choose (eqb x m) 1 0) (mode_count l) 0 8, sum_one x h, sum_modes l a)

sum_three : (g : ℕ → ℕ) → sum (tabulated g 0 3) ≡ g 0 + g 1 + g 2
unfolding tabulated sum
sum_three g = omega arith

-- ---- what a frame adds
module _ (f : PixelFormat) (w h : ℕ) (coded modes : List ℕ) where
  abbrev counts : Kind → Counts
  counts kind = frame_counts f w h kind coded modes

  blocks_of_law : (kind : Kind) → Codes kind → ((counts kind).coded ≡ tabulated (coded_in f w h coded) 0 3) × ((counts kind).uncoded ≡ tabulated (uncoded_in f w h coded) 0 3)
  unfolding frame_counts
  blocks_of_law Intra k = (refl, refl)
  blocks_of_law Inter k = (refl, refl)
  blocks_of_law Repeat (inl z) = let y : ◌≡◌ {A = ℕ} 0 1 = cc in absurd (omega arith)
  blocks_of_law Repeat (inr z) = let y : ◌≡◌ {A = ℕ} 0 1 = cc in absurd (omega arith)

  -- "coded and uncoded blocks by plane": together the plane's blocks
  pub plane_sum : (kind : Kind) → Codes kind → Once coded → (p : ℕ) → p < 3 → get_or (counts kind).coded p 0 + get_or (counts kind).uncoded p 0 ≡ plane_blocks f w h p
  plane_sum kind k once p l =
      let z = blocks_of_law kind k in
      let a = ap (λ (l : List ℕ). get_or l p 0) z.0 ∙ tabulated_at (coded_in f w h coded) 0 3 p l in
      let b = ap (λ (l : List ℕ). get_or l p 0) z.1 ∙ tabulated_at (uncoded_in f w h coded) 0 3 p l in
      (λ i. a i + b i) ∙ ap (λ (q : ℕ). coded_in f w h coded q + uncoded_in f w h coded q) (zero-add p) ∙ both_in f w h coded once p

  -- "coded plus uncoded by NBS": over all planes
  pub blocks_sum : (kind : Kind) → Codes kind → Once coded → sum (counts kind).coded + sum (counts kind).uncoded ≡ blocks_of f w h
  blocks_sum kind k once =
      let z = blocks_of_law kind k in
      let a = ap sum z.0 ∙ sum_three (coded_in f w h coded) in
      let b = ap sum z.1 ∙ sum_three (uncoded_in f w h coded) in
      omega (arith, a, b, both_in f w h coded once 0, both_in f w h coded once 1, both_in f w h coded once 2, (before_planes f w h).2)

  -- "the eight mode counts grow by NMBS": over all modes of an inter frame
  pub modes_sum : (kind : Kind) → kind ≡ Inter → AllBelow 8 modes → sum (counts kind).modes ≡ length modes
  unfolding frame_counts
  modes_sum kind k a = rw k (sum_modes modes a)

  -- "(inter frames only)"
  pub modes_none : (kind : Kind) → kind ≡ Intra → (counts kind).modes ≡ replicate 8 0
  unfolding frame_counts
  modes_none kind k = rw k refl

  pub repeat_none : (kind : Kind) → kind ≡ Repeat → counts kind ≡ no_counts
  unfolding frame_counts
  repeat_none kind k = rw k refl

-- A vector that is whole in both axes fetches once; and worked examples of vectors.
-- Assumes nothing.
use mathlib.Core.Path.{◌≡◌, refl, ap, ◌∙◌}
use mathlib.Core.Bool.{Bool, true, false}
use mathlib.Core.List.{List}
use Prim.Native.Nat.{ℕ, suc, ◌+◌, ◌/◌, ◌%◌}
use native.Mathlib.Omega.{arith}
use lib.IntN.{ℤ, pos, negsuc, neg_ℤ, nat_abs}
use Rattle.geometry.specs.declared.PixelFormat.{PixelFormat}
use Rattle.geometry.specs.declared.PixelFormat.TheVariants.{Chroma420, Chroma422, Chroma444}
use Rattle.geometry.specs.declared.Block.{Block}
use Rattle.block_record.specs.declared.Vector.{Vector}
use Rattle.fetches.specs.Motion.{subsampled_across, subsampled_up, steps, down, rounded_up, inside}
use Rattle.prediction.specs.Predicted.{fetched, moved}
use Rattle.fetches.specs.Fetched.{mean}
use Rattle.prediction.proofs.Facts.{mean_same}

-- ---- a whole number of samples is rounded to itself, up or down
pub whole_component : (subsampled : Bool) (z : ℤ) → nat_abs z % steps subsampled ≡ 0 → rounded_up (steps subsampled) z ≡ down (steps subsampled) z
unfolding rounded_up down
whole_component true (pos n) h = let e : (n + 3) / 4 ≡ n / 4 = omega arith in ap pos e
whole_component false (pos n) h = let e : (n + 1) / 2 ≡ n / 2 = omega arith in ap pos e
whole_component true (negsuc n) h = let e : (suc n + 3) / 4 ≡ suc n / 4 = omega arith in ap (λ (m : ℕ). neg_ℤ (pos m)) e
whole_component false (negsuc n) h = let e : (suc n + 1) / 2 ≡ suc n / 2 = omega arith in ap (λ (m : ℕ). neg_ℤ (pos m)) e

-- a vector that is whole in both axes fetches once
pub whole : (f : PixelFormat) (w h : ℕ) (s : List ℕ) (b : Block) (v : Vector) (c r : ℕ)
    → nat_abs v.x % steps (subsampled_across f b.plane) ≡ 0 → nat_abs v.y % steps (subsampled_up f b.plane) ≡ 0
    → moved f w h s b v c r ≡ fetched f w h s b (down (steps (subsampled_across f b.plane)) v.x) (down (steps (subsampled_up f b.plane)) v.y) c r
unfolding moved
whole f w h s b v c r hx hy =
    let m = steps (subsampled_across f b.plane) in
    let n = steps (subsampled_up f b.plane) in
    let x = whole_component (subsampled_across f b.plane) v.x hx in
    let y = whole_component (subsampled_up f b.plane) v.y hy in
    (λ i. mean (fetched f w h s b (down m v.x) (down n v.y) c r) (fetched f w h s b (x i) (y i) c r))
    ∙ mean_same (fetched f w h s b (down m v.x) (down n v.y) c r)

-- ---- worked examples; -(n + 1) is `negsuc n`
-- -3 halves: -1 and -2; 5 quarters: 1 and 2; -4 quarters: -1 twice
rounded : (down 2 (negsuc 2) ≡ negsuc 0) × (rounded_up 2 (negsuc 2) ≡ negsuc 1) × (down 4 (pos 5) ≡ pos 1) × (rounded_up 4 (pos 5) ≡ pos 2) × (down 4 (negsuc 3) ≡ negsuc 0) × (rounded_up 4 (negsuc 3) ≡ negsuc 0)
unfolding down rounded_up
rounded = (refl, refl, refl, refl, refl, refl)

-- a side of 16 samples: -5, 3 and 20 are clamped to 0, 3 and 15
clamped : (inside 16 (negsuc 4) ≡ 0) × (inside 16 (pos 3) ≡ 3) × (inside 16 (pos 20) ≡ 15)
unfolding inside
clamped = (refl, refl, refl)

-- quarters in chroma: both axes of 4:2:0, across alone in 4:2:2, none in 4:4:4
quarters : (steps (subsampled_across Chroma420 1) ≡ 4) × (steps (subsampled_up Chroma420 1) ≡ 4) × (steps (subsampled_across Chroma422 1) ≡ 4) × (steps (subsampled_up Chroma422 1) ≡ 2)
    × (steps (subsampled_across Chroma444 1) ≡ 2) × (steps (subsampled_up Chroma444 1) ≡ 2)
unfolding subsampled_across subsampled_up
quarters = (refl, refl, refl, refl, refl, refl)

-- The coded order as raster numbers, and values set at places of a list. Assumes nothing.
use Prim.Native.Nat.{ℕ, zero, suc, ◌<◌}
use native.Mathlib.Omega.{arith}
use native.Mathlib.Nat.{le_of_suc-le-suc, not-suc-le-zero}
use mathlib.Core.Path.{◌≡◌, refl, ap, ◌∙◌}
use mathlib.Core.List.{List, [], ◌∷◌, map}
use lib.ListN.{length, get_or, set, replicate, length-map, length-set}
use Rattle.geometry.specs.declared.PixelFormat.{PixelFormat}
use Rattle.geometry.specs.Sizes.{blocks_of}
use Rattle.geometry.specs.Frame.{block, frame_order}
use Rattle.geometry.proofs.FrameLaws.{frame_length, frame_back}
use Rattle.geometry.specs.Raster.{raster_number}
use Rattle.geometry.proofs.RasterLaws.{raster_number_below}
use Rattle.coded_flags.specs.Coded.{order, set_at}

-- ---- lists
map_at : {A : Type 0} (g : A → ℕ) (l : List A) (i : ℕ) (d : A) → i < length l → get_or (map g l) i 0 ≡ g (get_or l i d)
map_at g [] i d h = absurd (not-suc-le-zero h)
map_at g (x ∷ l) zero d h = refl
map_at g (x ∷ l) (suc i) d h = map_at g l i d (le_of_suc-le-suc h)

pub map_replicate : {A : Type 0} (g : A → ℕ) (n : ℕ) (v : A) → map g (replicate n v) ≡ replicate n (g v)
map_replicate g zero v = refl
map_replicate g (suc n) v = ap (λ (m : List ℕ). g v ∷ m) (map_replicate g n v)

pub set_at_length : {A : Type 0} (v : A) (ns : List ℕ) (l : List A) → length (set_at v ns l) ≡ length l
unfolding set_at
set_at_length v [] l = refl
set_at_length v (n ∷ ns) l = set_at_length v ns (set l n v) ∙ length-set l n v

-- ---- raster numbers
module _ (f : PixelFormat) (w h : ℕ) where
  pub order_length : length (order f w h) ≡ blocks_of f w h
  unfolding order
  order_length = length-map (frame_order f w h) (raster_number f w h) ∙ frame_length f w h

  pub order_at : (i : ℕ) → i < blocks_of f w h → get_or (order f w h) i 0 ≡ raster_number f w h (get_or (frame_order f w h) i (block 0 0 0))
  unfolding order
  order_at i l = map_at (raster_number f w h) (frame_order f w h) i (block 0 0 0) (omega (arith, frame_length f w h))

  pub order_small : (i : ℕ) → i < blocks_of f w h → get_or (order f w h) i 0 < blocks_of f w h
  order_small i l = rw (order_at i l) (raster_number_below f w h (get_or (frame_order f w h) i (block 0 0 0)) (frame_back f w h i l).0)

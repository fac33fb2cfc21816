-- The packed records of the coded blocks, and what is answered of them. Assumes nothing.
use Prim.Native.Nat.{ℕ, zero, suc, ◌*◌, ◌/◌}
use native.Mathlib.Omega.{arith}
use mathlib.Core.Path.{◌≡◌, refl, ap, ◌∙◌}
use mathlib.Core.List.{List, [], ◌∷◌, map}
use lib.ListN.{length, take, set, replicate}
use lib.Seq.{length-take-le}
use Rattle.geometry.specs.declared.PixelFormat.{PixelFormat}
use Rattle.geometry.specs.declared.Plane.{Plane}
use Rattle.geometry.specs.Sizes.{plane_blocks, blocks_of, plane_of}
use Rattle.geometry.proofs.SizeLaws.{before_luma, before_next, before_to}
use Rattle.block_record.specs.Record.{uncoded, now_coded}
use Rattle.block_record.specs.Packed.{packed}
use Rattle.block_record.proofs.Laws.{packed_uncoded}
use Rattle.coded_flags.proofs.Order.{map_replicate}
use Rattle.coded_flags.specs.Coded.{coded_blocks, coded_luma, set_at, coded_records}
use Rattle.coded_list.specs.Answer.{listed_of}

-- ---- the packed records
map_set : {A : Type 0} (g : A → ℕ) (l : List A) (i : ℕ) (v : A) → map g (set l i v) ≡ set (map g l) i (g v)
map_set g [] i v = refl
map_set g (x ∷ l) zero v = refl
map_set g (x ∷ l) (suc i) v = ap (λ (m : List ℕ). g x ∷ m) (map_set g l i v)

map_set_at : {A : Type 0} (g : A → ℕ) (v : A) (ns : List ℕ) (l : List A) → map g (set_at v ns l) ≡ set_at (g v) ns (map g l)
unfolding set_at
map_set_at g v [] l = refl
map_set_at g v (n ∷ ns) l = map_set_at g v ns (set l n v) ∙ ap (set_at (g v) ns) (map_set g l n v)

pub records_packed : (f : PixelFormat) (w h : ℕ) (flags : List ℕ) → map packed (coded_records f w h flags) ≡ set_at (packed now_coded) (coded_blocks f w h flags) (replicate (blocks_of f w h) 0)
unfolding coded_records
records_packed f w h flags =
    map_set_at packed now_coded (coded_blocks f w h flags) (replicate (blocks_of f w h) uncoded)
    ∙ ap (set_at (packed now_coded) (coded_blocks f w h flags)) (map_replicate packed (blocks_of f w h) uncoded ∙ ap (replicate (blocks_of f w h)) packed_uncoded)

-- what list_coded answers
pub listed_by : (f : PixelFormat) (w h : ℕ) (flags : List ℕ) (count luma : ℕ) → count ≡ length (coded_blocks f w h flags) → luma ≡ coded_luma f w h flags
    → record { count = count; luma = luma } ≡ listed_of f w h flags
listed_by f w h flags count luma a b = λ i. record { count = a i; luma = b i }

-- the luma plane, over what a program has in its variables
module _ (f : PixelFormat) (w h : ℕ) (q : Plane) where
  pub luma_blocks : q ≡ plane_of f w h 0 → q.length / 64 ≡ plane_blocks f w h 0
  luma_blocks e = let d : 64 * plane_blocks f w h 0 / 64 ≡ plane_blocks f w h 0 = omega arith in rw (e, d)

  pub luma_part : (flags : List ℕ) → q ≡ plane_of f w h 0 → length flags ≡ blocks_of f w h → length (take (q.length / 64) flags) ≡ q.length / 64
  luma_part flags e k = length-take-le (q.length / 64) flags (omega (arith, luma_blocks e, before_luma f w h, before_next f w h 0, before_to f w h 0 (omega arith)))

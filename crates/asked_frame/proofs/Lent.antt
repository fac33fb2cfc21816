-- The frame of blocks that lie in slices: which matrices it depends on. Assumes nothing.
use Prim.Native.Nat.{ℕ, ◌<◌}
use native.Mathlib.Omega.{arith}
use mathlib.Core.Path.{◌≡◌}
use mathlib.Core.List.{List, map}
use lib.IntN.{ℤ}
use lib.ListN.{length, get_or, take, replicate, length-replicate}
use Rattle.geometry.specs.declared.PixelFormat.{PixelFormat}
use Rattle.geometry.specs.Raster.{raster_number}
use Rattle.geometry.proofs.RasterLaws.{raster_number_below}
use Rattle.block_record.specs.Record.{uncoded}
use Rattle.block_record.specs.Packed.{unpacked}
use Rattle.block_record.specs.declared.Prediction.{Prediction}
use Rattle.block_record.specs.declared.Prediction.TheVariants.{None, Previous, Golden}
use Rattle.ways.specs.Loops.{◌∈◌}
use Rattle.ways.specs.Ways.{first_way}
use Rattle.reconstruct.specs.Picture.{Matrices, type_of, record_of, picture_of}
use Rattle.reconstruct.specs.Lent.{blocks_in, Lent, ZerosBehind}
use Rattle.reconstruct.proofs.Same.{matrices_same}

-- what was read of the blocks of a frame with so many qi lies in slices, zeros behind it
pub record BlocksLent (f : PixelFormat) (w h : ℕ) (records coded : List ℕ) (count : ℕ) (coefs : List ℤ) (lasts : List ℕ) (qis : ℕ) : Type 0 where
  pub lent : (matrices : List ℕ) → length matrices ≡ 1152 → Lent f w h records coded count coefs lasts matrices
  pub behind : ZerosBehind coded count coefs lasts
  pub qi_index : (n : ℕ) → n ∈ take count coded → (get_or (map unpacked records) n uncoded).qi_index < qis

type_below : (p : Prediction) → type_of p < 2
unfolding type_of
type_below None = omega arith
type_below (Previous v) = omega arith
type_below (Golden v) = omega arith

-- the matrices of the frame's own qi are enough
module _ (f : PixelFormat) (w h : ℕ) (records coded : List ℕ) (count : ℕ) (coefs : List ℤ) (lasts : List ℕ) (qis : ℕ) (bs : BlocksLent f w h records coded count coefs lasts qis) where
  pub matrices_enough : (M N : Matrices) (L : ℕ) (golden previous : List ℕ)
      → ((type plane index : ℕ) → type < 2 → plane < 3 → index < qis → M type plane index ≡ N type plane index)
      → first_way f w h (picture_of f w h (blocks_in records coded count coefs lasts) M L golden previous) previous
      ≡ first_way f w h (picture_of f w h (blocks_in records coded count coefs lasts) N L golden previous) previous
  unfolding record_of
  matrices_enough M N L golden previous same =
      matrices_same f w h (blocks_in records coded count coefs lasts) M N L golden previous
      (λ b k c.
      let r = record_of f w h (blocks_in records coded count coefs lasts) b in
      let n = raster_number f w h b in
      let l = bs.qi_index n ((bs.lent (replicate 1152 0) (length-replicate {A = ℕ} 1152 0)).blocks.every n (raster_number_below f w h b k) c) in
      let t = type_below r.prediction in
      (same (type_of r.prediction) b.plane 0 t k.of_three (omega arith), same (type_of r.prediction) b.plane r.qi_index t k.of_three l))

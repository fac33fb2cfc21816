-- "Samples": what a frame packet asks for, from the lists that are read of it.
use Rattle.std.specs.Prelude.{cond, List, [], ◌∷◌, ℕ, suc, ◌*◌, eqb, ℤ, pos, length, get_or, set, replicate}
use Rattle.geometry.specs.declared.PixelFormat.{PixelFormat}
use Rattle.geometry.specs.declared.Block.{Block}
use Rattle.geometry.specs.Sizes.{across, up, blocks_of}
use Rattle.geometry.specs.Raster.{raster_number}
use Rattle.block_record.specs.declared.Prediction.{Prediction}
use Rattle.block_record.specs.declared.Prediction.TheVariants.{None, Previous, Golden}
use Rattle.block_record.specs.declared.BlockRecord.{BlockRecord}
use Rattle.block_record.specs.Record.{uncoded}
use Rattle.transform.specs.Residual.{residual}
use Rattle.dc_prediction.specs.Planes.{predicted_dc}
use Rattle.prediction.specs.Predicted.{summed}
use Rattle.loop_filter.specs.Filter.{filtered}
use Rattle.ways.specs.Loops.{up_to}
use Rattle.ways.specs.Ways.{Picture}

-- what is read of the blocks of a frame
pub record Blocks : Type 0 where
  -- each block's record, by raster number
  pub records : List BlockRecord
  -- the raster numbers of the coded blocks, in coded order. A block's place in this list is its rank
  pub coded : List ℕ
  -- 64 coefficients for each coded block, by rank, in zig-zag order
  pub coefs : List ℤ
  -- the position of each coded block's last visit, by rank
  pub lasts : List ℕ

-- the quantization matrix of a type (0 intra, 1 inter), a plane and one of the frame's qi (0 is the first), in natural order
abbrev pub Matrices : Type 0
Matrices = (type plane index : ℕ) → List ℕ

-- the rank of block number n: its place in the list of the coded ones
unfoldable pub rank_of : List ℕ → ℕ → ℕ
rank_of [] n = 0
rank_of (m ∷ ms) n = cond (eqb m n) 0 (suc (rank_of ms n))

-- the first coefficient of each coded block, put in its place by raster number
unfoldable pub gathered : List ℕ → List ℤ → List ℤ → List ℤ
gathered coded coefs = up_to (length coded) (λ k dc. set dc (get_or coded k 0) (get_or coefs (k * 64) (pos 0)))

-- "INTRA blocks take the intra matrices, all others the inter ones"
unfoldable pub type_of : Prediction → ℕ
type_of None = 0
type_of (Previous v) = 1
type_of (Golden v) = 1

-- the residuals of the block of rank k in a plane, from its DC after prediction: "DC uses the frame's first qi, the rest the block's qi"
unfoldable pub block_residual : Matrices → List ℤ → (k : ℕ) (dc : ℤ) (last : ℕ) → BlockRecord → (plane : ℕ) → List ℤ
block_residual matrix coefs k dc last r plane =
    let m = matrix (type_of r.prediction) plane in
    residual coefs (k * 64) dc last (get_or (m 0) 0 0) (m r.qi_index)

module _ (f : PixelFormat) (w h : ℕ) (bs : Blocks) where
  -- the DC of each block after prediction, by raster number
  unfoldable pub dc_of : List ℤ
  dc_of = predicted_dc bs.records (across f w 0) (up f h 0) (across f w 1) (up f h 1) (gathered bs.coded bs.coefs (replicate (blocks_of f w h) (pos 0)))

  -- a block's record
  unfoldable pub record_of : Block → BlockRecord
  record_of b = get_or bs.records (raster_number f w h b) uncoded

  -- a coded block's residuals, row by row
  unfoldable pub residual_of : Matrices → Block → List ℤ
  residual_of matrix b =
      let n = raster_number f w h b in
      let k = rank_of bs.coded n in
      block_residual matrix bs.coefs k (get_or dc_of n (pos 0)) (get_or bs.lasts k 0) (record_of b) b.plane

  -- the sample in column c and row r of a coded block, before the loop filter
  unfoldable pub sample_of : Matrices → (golden previous : List ℕ) → Block → ℕ → ℕ → ℕ
  sample_of matrix golden previous b = summed f w h golden previous (residual_of matrix b) (record_of b).prediction b

  -- the picture: "L is the limit of the first qi"
  unfoldable pub picture_of : Matrices → (L : ℕ) → (golden previous : List ℕ) → Picture
  picture_of matrix L golden previous = record {
    coded = λ b. (record_of b).coded;
    sample = sample_of matrix golden previous;
    filtered = filtered L;
  }

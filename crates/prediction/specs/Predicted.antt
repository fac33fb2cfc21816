-- "Prediction": the sample in column c and row r of a block, as predicted and with its residual.
use Rattle.std.specs.Prelude.{List, ℕ, ◌+◌, ◌*◌, ℤ, pos, ◌+ℤ◌, get_or}
use Rattle.numeric.specs.Clamp.{clamp255}
use Rattle.geometry.specs.declared.PixelFormat.{PixelFormat}
use Rattle.geometry.specs.declared.Block.{Block}
use Rattle.geometry.specs.Sizes.{plane_of}
use Rattle.block_record.specs.declared.Vector.{Vector}
use Rattle.block_record.specs.declared.Prediction.{Prediction}
use Rattle.block_record.specs.declared.Prediction.TheVariants.{None, Previous, Golden}
use Rattle.fetches.specs.Motion.{subsampled_across, subsampled_up, steps, down, rounded_up, fetch}
use Rattle.fetches.specs.Fetched.{mean}

module _ (f : PixelFormat) (w h : ℕ) where
  -- what is fetched from a reference s for column c and row r of block b, dx samples to the right and dy up
  unfoldable pub fetched : List ℕ → Block → ℤ → ℤ → ℕ → ℕ → ℕ
  fetched s b dx dy c r = fetch (plane_of f w h b.plane) s (pos (8 * b.x + c) +ℤ dx) (pos (8 * b.y + r) +ℤ dy)

  -- "the floor of the mean of TWO fetches, magnitudes down and up in both axes". Where the vector is whole the two are one (law `whole`)
  unfoldable pub moved : List ℕ → Block → Vector → ℕ → ℕ → ℕ
  moved s b v c r =
      let m = steps (subsampled_across f b.plane) in
      let n = steps (subsampled_up f b.plane) in
      mean (fetched s b (down m v.x) (down n v.y) c r) (fetched s b (rounded_up m v.x) (rounded_up n v.y) c r)

  -- "128 for none"; else from previous or golden, by the vector
  unfoldable pub predicted : (golden previous : List ℕ) → Prediction → Block → ℕ → ℕ → ℕ
  predicted golden previous None b c r = 128
  predicted golden previous (Previous v) b c r = moved previous b v c r
  predicted golden previous (Golden v) b c r = moved golden b v c r

  -- "Sums clamp to 0..255": with the block's residuals, 64 numbers row by row
  unfoldable pub summed : (golden previous : List ℕ) → List ℤ → Prediction → Block → ℕ → ℕ → ℕ
  summed golden previous residual p b c r = clamp255 (pos (predicted golden previous p b c r) +ℤ get_or residual (r * 8 + c) (pos 0))

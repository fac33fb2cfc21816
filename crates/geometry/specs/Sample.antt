-- "plane 0 first, rows bottom first": where a sample lies in the buffer.
use Rattle.std.specs.Prelude.{◌≡◌, ℕ, ◌+◌, ◌*◌, ◌<◌}
use Rattle.geometry.specs.declared.PixelFormat.{PixelFormat}
use Rattle.geometry.specs.declared.Block.{Block}
use Rattle.geometry.specs.Sizes.{across, blocks_before}
use Rattle.geometry.specs.Frame.{InFrame}

-- column c and row r of block (x, y), in a plane of a blocks across: 8 a samples to a row
unfoldable pub sample_in : ℕ → ℕ → ℕ → ℕ → ℕ → ℕ
sample_in a x y c r = (8 * y + r) * (8 * a) + (8 * x + c)

-- column c and row r of block b of the frame
unfoldable pub sample_at : PixelFormat → ℕ → ℕ → Block → ℕ → ℕ → ℕ
sample_at f w h b c r = 64 * blocks_before f w h b.plane + sample_in (across f w b.plane) b.x b.y c r

-- a sample: a column and a row, from the lower left, of a block
pub record Sample : Type 0 where
  pub block : Block
  pub column : ℕ
  pub row : ℕ

-- sample s of the frame lies at o
pub record LiesAt (f : PixelFormat) (w h o : ℕ) (s : Sample) : Type 0 where
  pub in_frame : InFrame f w h s.block
  pub column : s.column < 8
  pub row : s.row < 8
  pub lies : sample_at f w h s.block s.column s.row ≡ o

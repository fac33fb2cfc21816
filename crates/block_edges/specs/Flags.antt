-- Which blocks are coded, by their packed records.
use Rattle.std.specs.Prelude.{Bool, List, ℕ, get_or}
use Rattle.geometry.specs.declared.PixelFormat.{PixelFormat}
use Rattle.geometry.specs.declared.Block.{Block}
use Rattle.geometry.specs.Raster.{raster_number}
use Rattle.block_record.specs.Packed.{unpacked}

-- whether block n is coded
unfoldable pub coded_at : List ℕ → ℕ → Bool
coded_at records n = (unpacked (get_or records n 0)).coded

-- of a block, by its number in raster order
unfoldable pub coded_by : PixelFormat → ℕ → ℕ → List ℕ → Block → Bool
coded_by f w h records b = coded_at records (raster_number f w h b)

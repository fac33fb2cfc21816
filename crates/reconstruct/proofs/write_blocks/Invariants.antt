-- `reconstruct::write_blocks` meets its contract. The loop's invariant: the first k coded blocks are written, and the band is one.
-- Assumes nothing.
use mathlib.Core.Path.{◌≡◌}
use mathlib.Core.List.{map}
use Prim.Native.Nat.{◌-◌, ◌≤◌}
use lib.ListN.{length, take}
use Rattle.ways.specs.Loops.{over}
use Rattle.geometry.specs.Raster.{block_no}
use Rattle.block_walk.specs.Band.{IsBand}
use Rattle.reconstruct.specs.Picture.{sample_of}
use Rattle.reconstruct.specs.Lent.{blocks_in, matrix_in, put_block}
use Rattle.reconstruct.proofs.write_blocks.Given as goal

abbrev pub invariant-loop-k : goal.invariant-loop-k
invariant-loop-k l = (l.k ≤ l.count) × (length l.new ≡ length l.initial.new) × (l.new ≡ over (take l.k (map (block_no l.format l.w l.h) (take l.count l.coded))) (put_block l.format l.w l.h (sample_of l.format l.w l.h (blocks_in l.records l.coded l.count l.coefs l.lasts) (matrix_in l.matrices) l.golden l.previous)) l.initial.new) × IsBand l.format l.w l.h l.band

abbrev pub decreases-loop-k : goal.decreases-loop-k
decreases-loop-k l = l.count - l.k

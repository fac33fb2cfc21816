-- `dc_prediction::predict_blocks` meets its contract. The loop's invariant: the first x blocks of the row are predicted. Assumes nothing.
use Rattle.std.proofs.Common.{◌≡◌, map}
use Rattle.block_record.specs.Packed.{unpacked}
use Rattle.dc_prediction.specs.Planes.{block_step}
use Rattle.dc_neighbours.specs.Block.{state_of}
use Rattle.ways.specs.Loops.{up_to}
use Rattle.dc_prediction.proofs.predict_blocks.Given as goal

abbrev pub invariant-loop-x : goal.invariant-loop-x
invariant-loop-x l = state_of l.dc l.latest ≡ up_to l.x (block_step (map unpacked l.records) l.start l.across l.below) (state_of l.fn.dc l.fn.last)

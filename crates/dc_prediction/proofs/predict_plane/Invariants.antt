-- `dc_prediction::predict_plane` meets its contract. The loop's invariant: the first y rows of the plane are predicted. Assumes nothing.
use Rattle.std.proofs.Common.{◌≡◌, map, ◌+◌, ◌*◌, ltb}
use Rattle.block_record.specs.Packed.{unpacked}
use Rattle.dc_prediction.specs.Planes.{at_first, row}
use Rattle.dc_neighbours.specs.Block.{state_of}
use Rattle.ways.specs.Loops.{up_to}
use Rattle.dc_prediction.proofs.predict_plane.Given as goal

abbrev pub invariant-loop-y : goal.invariant-loop-y
invariant-loop-y l = state_of l.dc l.last ≡ up_to l.y (λ y. row (map unpacked l.records) (l.first + y * l.across) l.across (ltb 0 y)) (state_of l.fn.dc at_first)

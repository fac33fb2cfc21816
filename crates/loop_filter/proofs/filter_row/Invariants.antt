-- `loop_filter::filter_row` meets its contract. The loop's invariant: x of the steps are made, of which those before the first coded block change nothing.
-- Assumes nothing.
use Rattle.std.proofs.Common.{◌≡◌}
use Rattle.ways.specs.Loops.{up_to}
use Rattle.loop_filter.specs.Plane.{block_step}
use Rattle.loop_filter.proofs.filter_row.Given as goal

abbrev pub invariant-loop-x : goal.invariant-loop-x
invariant-loop-x l = l.s ≡ up_to l.x (block_step l.records l.limit l.first l.a l.u l.y) l.initial.s

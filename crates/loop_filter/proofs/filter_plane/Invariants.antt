-- `loop_filter::filter_plane` meets its contract. The loop's invariant: y of the steps are made. Assumes nothing.
use Rattle.std.proofs.Common.{◌≡◌}
use Rattle.ways.specs.Loops.{up_to}
use Rattle.loop_filter.specs.Plane.{row_steps}
use Rattle.loop_filter.proofs.filter_plane.Given as goal

abbrev pub invariant-loop-y : goal.invariant-loop-y
invariant-loop-y l = l.s ≡ up_to l.y (row_steps l.records l.limit l.first l.a l.u) l.initial.s

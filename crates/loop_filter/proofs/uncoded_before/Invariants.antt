-- `loop_filter::uncoded_before` meets its contract. The loop's invariant: none of the x blocks before is coded. Assumes nothing.
use Rattle.loop_filter.specs.Plane.{NoneCoded}
use Rattle.loop_filter.proofs.uncoded_before.Given as goal

abbrev pub invariant-loop-x : goal.invariant-loop-x
invariant-loop-x l = NoneCoded l.records l.n l.x

-- `transform::transform_columns` meets its contract. The loop's invariant: the first i columns are made.
use Rattle.std.proofs.Common.{◌≡◌}
use Rattle.transform.specs.Block.{columns}
use Rattle.transform.proofs.transform_columns.Given as goal

abbrev pub invariant-loop-i : goal.invariant-loop-i
invariant-loop-i l = l.s ≡ columns l.i l.fn.s

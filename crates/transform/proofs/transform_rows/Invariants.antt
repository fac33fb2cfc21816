-- `transform::transform_rows` meets its contract. The loop's invariant: the first i rows are made.
use Rattle.std.proofs.Common.{◌*◌}
use Rattle.zig_zag.specs.Placing.{turned}
use Rattle.transform.specs.Block.{rows}
use Rattle.transform.proofs.Rows.{Both}
use Rattle.transform.proofs.transform_rows.Given as goal

abbrev pub invariant-loop-i : goal.invariant-loop-i
invariant-loop-i l = Both (l.i * 8) l.out (rows l.i (turned l.turned))

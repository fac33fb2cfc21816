-- `transform::round_all` meets its contract. The loop's invariant: the first i are rounded.
use Rattle.std.proofs.Common.{◌≡◌, map, take, drop, ◌++◌}
use Rattle.transform.specs.Residual.{rounded}
use Rattle.transform.proofs.round_all.Given as goal

abbrev pub invariant-loop-i : goal.invariant-loop-i
invariant-loop-i l = l.s ≡ map rounded (take l.i l.fn.s) ++ drop l.i l.fn.s

-- `transform::used` meets its contract. The loop's invariant: from 8 g on the coefficients are 0.
use Rattle.std.proofs.Common.{◌*◌}
use Rattle.zig_zag.specs.Placing.{ZerosFrom}
use Rattle.transform.proofs.used.Given as goal

abbrev pub invariant-loop-g : goal.invariant-loop-g
invariant-loop-g l = ZerosFrom l.coefs l.at (l.g * 8)

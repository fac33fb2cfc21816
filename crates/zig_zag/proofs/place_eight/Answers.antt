-- `zig_zag::place_eight` meets its contract. Assumes nothing.
use native.Mathlib.Omega.{arith}
use Rattle.zig_zag.proofs.Placed.{stands_lt}
use Rattle.zig_zag.proofs.place_eight.Goals as goal

pub overflow_add-p : goal.overflow_add-p
overflow_add-p c = omega (arith, stands_lt _ _ c.requires.4.0)

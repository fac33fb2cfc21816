-- `zig_zag::place_four` meets its contract. Assumes nothing.
use native.Mathlib.Omega.{arith}
use Rattle.zig_zag.proofs.Placed.{stands_lt}
use Rattle.zig_zag.proofs.place_four.Goals as goal

pub overflow_add-p : goal.overflow_add-p
overflow_add-p c = omega (arith, stands_lt _ _ c.requires.4.0)

pub overflow_add-p-2 : goal.overflow_add-p-2
overflow_add-p-2 c = omega (arith, stands_lt _ _ c.requires.4.0)

pub overflow_add-p-3 : goal.overflow_add-p-3
overflow_add-p-3 c = omega (arith, stands_lt _ _ c.requires.4.0)

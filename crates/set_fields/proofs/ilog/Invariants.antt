-- `set_fields::ilog` meets its contract. Assumes nothing.
use Prim.Native.Nat.{◌-◌}
use native.Mathlib.Omega.{arith}
use Rattle.set_fields.proofs.Fields.{Digits, digits_start, digits_fits, digits_more, digits_done}
use borrow.Author.Rules.{rules}
use Rattle.set_fields.proofs.ilog.Given as goal

abbrev pub invariant-loop-left : goal.invariant-loop-left
invariant-loop-left l = Digits l.n l.left l.k

abbrev pub decreases-loop-left : goal.decreases-loop-left
decreases-loop-left l = l.left

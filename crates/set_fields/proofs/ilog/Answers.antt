use Prim.Native.Nat.{◌-◌}
use native.Mathlib.Omega.{arith}
use Rattle.set_fields.proofs.Fields.{Digits, digits_start, digits_fits, digits_more, digits_done}
use borrow.Author.Rules.{rules}
use Rattle.set_fields.proofs.ilog.Goals as goal

pub loop-left-init : goal.loop-left-init
loop-left-init c = digits_start c.args.n

pub overflow_add-k : goal.overflow_add-k
overflow_add-k c = omega (arith, digits_fits c.args.n c.loop-left.left c.loop-left.k c.loop-left.invariant, c.ranges.n)

pub loop-left-preserved : goal.loop-left-preserved
loop-left-preserved c = digits_more c.args.n c.loop-left.left c.loop-left.k c.loop-left-test.true c.loop-left.invariant

pub returns : goal.returns
returns c = digits_done c.args.n c.loop-left.left c.loop-left.k c.loop-left-test.false c.loop-left.invariant

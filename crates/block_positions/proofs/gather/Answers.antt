use borrow.Author.Rules.{rules}
use Prim.Native.Nat.{ℕ, ◌-◌, ◌≤◌}
use native.Mathlib.Omega.{arith}
use mathlib.Core.Path.{◌≡◌, refl, sym, ap, ◌∙◌}
use mathlib.Core.List.{List}
use lib.ListN.{length, get_or, take, length-set}
use lib.Seq.{take_all}
use Rattle.block_positions.specs.Answer.{due_of}
use Rattle.block_positions.proofs.Due.{due_nil, gathered_on, at_most_one_due}
use Rattle.block_positions.proofs.gather.Goals as goal

pub loop-j-init : goal.loop-j-init
loop-j-init c = (omega arith, omega arith, refl, sym (due_nil c.args.k c.args.positions.now))

pub loop-j-preserved : goal.loop-j-preserved
loop-j-preserved c = (
  omega (arith, c.loop-j-test.true),
  omega (arith, at_most_one_due c.args.k (get_or c.args.positions.now (get_or c.args.blocks.now c.loop-j.j 0) 0), c.one_if_due-n.ensures, c.loop-j.invariant.1),
  simp length-set c.loop-j.invariant.2,
  rw c.one_if_due-n.ensures (gathered_on c.args.k c.args.positions.now c.args.blocks.now c.loop-j.due c.loop-j.j c.loop-j.n c.loop-j-test.true (omega (arith, c.loop-j.invariant.1, c.loop-j.invariant.2, c.loop-j-test.true, c.requires.0)) c.loop-j.invariant.3),
)

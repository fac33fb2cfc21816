-- `session_steps::session_after` meets its contract. Assumes nothing.
use native.Mathlib.Omega.{arith}
use Rattle.session_steps.specs.Steps.{session_after}
use Rattle.session_steps.proofs.Counted.{keys_few, others_few}
use Rattle.session_steps.proofs.session_after.Goals as goal

pub overflow_add-next : goal.overflow_add-next
overflow_add-next c = omega (arith, keys_few c.args.kind c.args.s c.requires.1 c.in-Intra.is)

pub overflow_add-next-in-Inter : goal.overflow_add-next-in-Inter
overflow_add-next-in-Inter c = omega (arith, others_few c.args.s c.requires.0)

pub overflow_add-next-in-Repeat : goal.overflow_add-next-in-Repeat
overflow_add-next-in-Repeat c = omega (arith, others_few c.args.s c.requires.0)

pub returns-in-Intra : goal.returns-in-Intra
unfolding session_after
returns-in-Intra c = rw c.in-Intra.is

pub returns-in-Inter : goal.returns-in-Inter
unfolding session_after
returns-in-Inter c = rw c.in-Inter.is

pub returns-in-Repeat : goal.returns-in-Repeat
unfolding session_after
returns-in-Repeat c = rw c.in-Repeat.is

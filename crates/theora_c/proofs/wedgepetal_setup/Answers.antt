-- `theora_c::wedgepetal_setup` meets its contract. Assumes nothing.
use borrow.Author.Rules.{rules}
use borrow.Author.Tests.{ne_eqb}
use Rattle.theora_c.specs.Face.{setup_call}
use Rattle.theora_c.proofs.Calls.{setup_accepted, setup_refused}
use Rattle.theora_c.proofs.wedgepetal_setup.Goals as goal

pub returns-then-place-ne1 : goal.returns-then-place-ne1
unfolding setup_call
returns-then-place-ne1 c = rw (ne_eqb _ _ c.if-place-ne1.true)

pub returns-in-Accepted : goal.returns-in-Accepted
returns-in-Accepted c = setup_accepted c.args.packet.now c.args.table.now _ c.args.place.now c.if-place-ne1.false (c.setup.ensures.value, c.setup.ensures.table_after) c.in-Accepted.is

pub returns-in-Refused : goal.returns-in-Refused
returns-in-Refused c = setup_refused c.args.packet.now c.args.table.now _ c.args.place.now c.if-place-ne1.false (c.setup.ensures.value, c.setup.ensures.table_after) c.in-Refused.is

-- `header_fields::read_exactly` meets its contract. Assumes nothing.
use borrow.Author.Tests.{eq-eqb, ne_eqb}
use Rattle.header_fields.specs.Tests.{is_exactly}
use Rattle.header_fields.proofs.Answers.{answer_end, answer_fails, answer_passes}
use Rattle.header_fields.proofs.read_exactly.Goals as goal

pub returns-in_default : goal.returns-in_default
returns-in_default c = answer_end c.args.width (is_exactly c.args.want) c.args.k c.args.packet.now c.args.at c.read-field.ensures c.in_default.is

pub returns-then-value-want : goal.returns-then-value-want
returns-then-value-want c = answer_fails c.args.width (is_exactly c.args.want) c.args.k c.args.packet.now c.args.at c.read-field.ensures c.in-Got.is (ne_eqb _ _ c.if-value-want.true)

pub returns : goal.returns
returns c = answer_passes c.args.width (is_exactly c.args.want) c.args.k c.args.packet.now c.args.at c.read-field.ensures c.in-Got.is (eq-eqb _ _ c.if-value-want.false)

-- `header_fields::read_at_most` meets its contract. Assumes nothing.
use borrow.Author.Tests.{le-leb, lt-leb}
use Rattle.header_fields.specs.Tests.{is_at_most}
use Rattle.header_fields.proofs.Answers.{answer_end, answer_fails, answer_passes}
use Rattle.header_fields.proofs.read_at_most.Goals as goal

pub returns-in_default : goal.returns-in_default
returns-in_default c = answer_end c.args.width (is_at_most c.args.most) 5 c.args.packet.now c.args.at c.read-field.ensures c.in_default.is

pub returns-then-most-value : goal.returns-then-most-value
returns-then-most-value c = answer_fails c.args.width (is_at_most c.args.most) 5 c.args.packet.now c.args.at c.read-field.ensures c.in-Got.is (lt-leb _ _ c.if-most-value.true)

pub returns : goal.returns
returns c = answer_passes c.args.width (is_at_most c.args.most) 5 c.args.packet.now c.args.at c.read-field.ensures c.in-Got.is (le-leb _ _ c.if-most-value.false)

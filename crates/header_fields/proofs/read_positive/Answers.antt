-- `header_fields::read_positive` meets its contract. Assumes nothing.
use borrow.Author.Tests.{le-ltb, lt-ltb}
use Rattle.header_fields.specs.Tests.{is_positive}
use Rattle.header_fields.proofs.Answers.{answer_end, answer_fails, answer_passes}
use Rattle.header_fields.proofs.read_positive.Goals as goal

pub returns-in_default : goal.returns-in_default
returns-in_default c = answer_end c.args.width is_positive 5 c.args.packet.now c.args.at c.read-field.ensures c.in_default.is

pub returns-then-value-le0 : goal.returns-then-value-le0
returns-then-value-le0 c = answer_fails c.args.width is_positive 5 c.args.packet.now c.args.at c.read-field.ensures c.in-Got.is (le-ltb _ _ c.if-value-le0.true)

pub returns : goal.returns
returns c = answer_passes c.args.width is_positive 5 c.args.packet.now c.args.at c.read-field.ensures c.in-Got.is (lt-ltb _ _ c.if-value-le0.false)

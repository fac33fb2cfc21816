-- `header_fields::read_format_code` meets its contract. Assumes nothing.
use borrow.Author.Tests.{eq-eqb, ne_eqb}
use mathlib.Core.Path.{ap}
use mathlib.Core.Bool.{not}
use Rattle.header_fields.specs.Tests.{is_format}
use Rattle.header_fields.proofs.Answers.{answer_end, answer_fails, answer_passes}
use Rattle.header_fields.proofs.read_format_code.Goals as goal

pub returns-in_default : goal.returns-in_default
returns-in_default c = answer_end c.args.width is_format 6 c.args.packet.now c.args.at c.read-field.ensures c.in_default.is

pub returns-then-value-eq1 : goal.returns-then-value-eq1
returns-then-value-eq1 c = answer_fails c.args.width is_format 6 c.args.packet.now c.args.at c.read-field.ensures c.in-Got.is (ap not (eq-eqb _ _ c.if-value-eq1.true))

pub returns : goal.returns
returns c = answer_passes c.args.width is_format 6 c.args.packet.now c.args.at c.read-field.ensures c.in-Got.is (ap not (ne_eqb _ _ c.if-value-eq1.false))

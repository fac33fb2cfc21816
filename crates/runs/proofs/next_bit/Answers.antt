-- `runs::next_bit` meets its contract. Assumes nothing.
use mathlib.Core.Path.{sym, ap, ◌∙◌}
use Rattle.bitstream.specs.Answer.{as_field}
use Rattle.runs.proofs.Facts.{bit_read, bit_kept}
use borrow.Author.Rules.{rules}
use Rattle.runs.proofs.next_bit.Goals as goal

pub returns-then-fresh-eq1 : goal.returns-then-fresh-eq1
returns-then-fresh-eq1 c = c.read.ensures ∙ sym (ap as_field (bit_read c.args.fresh c.args.value c.args.packet.now c.args.at c.if-fresh-eq1.true))

pub returns : goal.returns
returns c = sym (ap as_field (bit_kept c.args.fresh c.args.value c.args.packet.now c.args.at c.if-fresh-eq1.false))

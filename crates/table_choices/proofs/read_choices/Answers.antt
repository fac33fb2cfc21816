-- `table_choices::read_choices` meets its contract. Assumes nothing.
use borrow.Author.Rules.{rules}
use mathlib.Core.Path.{sym, ap}
use Rattle.bitstream.specs.Reading.{two_fields}
use Rattle.bitstream.proofs.Fields.{two_got, two_refused}
use Rattle.table_choices.specs.Choices.{choices_of}
use Rattle.table_choices.specs.Answer.{as_chosen}
use Rattle.table_choices.proofs.Choices.{choices_kept, choices_refused, choices_read}
use Rattle.table_choices.proofs.read_choices.Goals as goal

pub returns-then-k-ge2 : goal.returns-then-k-ge2
returns-then-k-ge2 c = sym (ap as_chosen (choices_kept c.args.k (choices_of c.args.luma c.args.chroma) c.args.packet.now c.args.at c.if-k-ge2.true))

pub returns-in-Refused : goal.returns-in-Refused
returns-in-Refused c = let f = two_refused (two_fields 4 4 c.args.packet.now c.args.at) c.read_two-both.ensures c.in-Refused.is in
    sym (ap as_chosen (choices_refused c.args.k (choices_of c.args.luma c.args.chroma) c.args.packet.now c.args.at c.if-k-ge2.false f))

pub returns-in-Got : goal.returns-in-Got
returns-in-Got c = let f = two_got (two_fields 4 4 c.args.packet.now c.args.at) c.read_two-both.ensures c.in-Got.is in
    sym (ap as_chosen (choices_read c.args.k (choices_of c.args.luma c.args.chroma) c.args.packet.now c.args.at c.if-k-ge2.false f))

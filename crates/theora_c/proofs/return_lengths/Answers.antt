-- `theora_c::return_lengths` meets its contract. Assumes nothing.
use borrow.Author.Rules.{rules}
use mathlib.Core.Path.{sym, ap, ◌∙◌}
use Rattle.theora_c.specs.Face.{length_numbers, lengths_returned}
use Rattle.theora_c.proofs.return_lengths.Goals as goal

pub returns-in-Is : goal.returns-in-Is
unfolding length_numbers
returns-in-Is c = c.store.ensures ∙ sym (ap (lengths_returned c.args.list.now) c.in-Is.is)

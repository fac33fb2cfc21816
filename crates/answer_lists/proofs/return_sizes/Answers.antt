-- `answer_lists::return_sizes` meets its contract. Assumes nothing.
use mathlib.Core.Path.{sym, ap, ◌∙◌}
use Rattle.answer_lists.specs.Lists.{size_numbers, sizes_returned}
use Rattle.answer_lists.proofs.return_sizes.Goals as goal

pub returns-in-Is : goal.returns-in-Is
unfolding size_numbers
returns-in-Is c = c.store.ensures ∙ sym (ap (sizes_returned c.args.list.now) c.in-Is.is)

-- `reading::store_header` meets its contract. Assumes nothing.
use mathlib.Core.Path.{◌∙◌}
use Rattle.reading.specs.Answer.{answer_numbers}
use Rattle.reading.proofs.store_header.Goals as goal

pub returns : goal.returns
unfolding answer_numbers
returns c = c.copy_longs.ensures ∙ rw c.kind_number-number.ensures

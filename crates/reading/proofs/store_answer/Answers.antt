-- `reading::store_answer` meets its contract. Assumes nothing.
use mathlib.Core.Path.{sym, ap, ◌∙◌}
use Rattle.reading.specs.declared.Verdict.{Verdict}
use Rattle.reading.specs.Answer.{answer_numbers}
use Rattle.reading.proofs.store_answer.Goals as goal

pub returns-in-Refused : goal.returns-in-Refused
unfolding answer_numbers
returns-in-Refused c = c.copy_longs.ensures ∙ sym (ap (λ (v : Verdict). answer_numbers v c.args.header) c.in-Refused.is)

-- `theora::work_lengths` meets its contract. Assumes nothing.
use borrow.Author.Rules.{rules}
use mathlib.Core.Path.{sym, ap, ◌∙◌}
use Rattle.theora.specs.declared.WorkAnswer.{WorkAnswer}
use Rattle.theora.specs.Lengths.{work_lengths}
use Rattle.theora.proofs.work_lengths.Goals as goal

pub returns-then-session_fits : goal.returns-then-session_fits
unfolding work_lengths
returns-then-session_fits c = rw (sym c.session_fits.ensures ∙ c.if-session_fits.true) (ap WorkAnswer.Is c.lengths_of.ensures)

pub returns : goal.returns
unfolding work_lengths
returns c = sym (rw (sym c.session_fits.ensures ∙ c.if-session_fits.false))

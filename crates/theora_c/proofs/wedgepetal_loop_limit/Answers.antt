-- `theora_c::wedgepetal_loop_limit` meets its contract. Assumes nothing.
use borrow.Author.Rules.{rules}
use borrow.Author.Tests.{eq-eqb, ne_eqb}
use mathlib.Core.Path.{ap, ◌∙◌}
use Rattle.theora_c.specs.Face.{limit_call}
use Rattle.answer_lists.specs.Lists.{number_returned}
use Rattle.theora_c.proofs.wedgepetal_loop_limit.Goals as goal

pub returns-then-limit-eq1 : goal.returns-then-limit-eq1
unfolding limit_call
returns-then-limit-eq1 c = rw (eq-eqb _ _ c.if-limit-eq1.true) (c.return_number.ensures ∙ ap (number_returned c.args.limit.now) c.loop_limit.ensures)

pub returns : goal.returns
unfolding limit_call
returns c = rw (ne_eqb _ _ c.if-limit-eq1.false)

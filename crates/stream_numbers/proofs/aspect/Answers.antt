-- `stream_numbers::aspect` meets its contract. Assumes nothing.
use borrow.Author.Tests.{eq-eqb, ne_eqb}
use Rattle.stream_numbers.specs.Numbers.{aspect}
use Rattle.stream_numbers.proofs.aspect.Goals as goal

pub returns-then-other-eq0 : goal.returns-then-other-eq0
unfolding aspect
returns-then-other-eq0 c = rw (eq-eqb c.args.other 0 c.if-other-eq0.true)

pub returns : goal.returns
unfolding aspect
returns c = rw (ne_eqb c.args.other 0 c.if-other-eq0.false)

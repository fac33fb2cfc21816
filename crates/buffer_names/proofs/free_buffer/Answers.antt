-- `buffer_names::free_buffer` meets its contract. Assumes nothing.
use mathlib.Core.Path.{sym}
use Rattle.buffer_names.specs.Names.{free}
use Rattle.buffer_names.proofs.free_buffer.Goals as goal

pub returns-then-golden-previous : goal.returns-then-golden-previous
unfolding free
returns-then-golden-previous c = sym (rw c.if-golden-previous.true)

pub returns-then-golden-previous-2 : goal.returns-then-golden-previous-2
unfolding free
returns-then-golden-previous-2 c = sym (rw (c.if-golden-previous.false, c.if-golden-previous-2.true))

pub returns : goal.returns
unfolding free
returns c = sym (rw (c.if-golden-previous.false, c.if-golden-previous-2.false))

-- `queries::has_block` meets its contract. Assumes nothing.
use borrow.Author.Tests.{lt-ltb, le-ltb}
use mathlib.Core.Path.{sym}
use Rattle.queries.specs.Orders.{has_block}
use Rattle.queries.proofs.has_block.Goals as goal

pub returns-then-b-ge3 : goal.returns-then-b-ge3
unfolding has_block
returns-then-b-ge3 c = sym (rw (le-ltb _ _ c.if-b-ge3.true))

pub returns : goal.returns
unfolding has_block
returns c = sym (rw (lt-ltb _ _ c.if-b-ge3.false, c.plane_of-plane.ensures))

-- `table_choices::begins_group` meets its contract. Assumes nothing.
use borrow.Author.Rules.{rules}
use Rattle.table_choices.proofs.Choices.{begins_first, begins_later}
use Rattle.table_choices.proofs.begins_group.Goals as goal

pub returns-then-k-eq0 : goal.returns-then-k-eq0
returns-then-k-eq0 c = begins_first _ c.if-k-eq0.true

pub returns : goal.returns
returns c = rw (c.group_of.ensures.0, c.group_of-2.ensures.0) (begins_later c.args.k c.if-k-eq0.false)

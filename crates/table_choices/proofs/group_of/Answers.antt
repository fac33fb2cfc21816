-- `table_choices::group_of` meets its contract. Assumes nothing.
use native.Mathlib.Omega.{arith}
use Rattle.table_choices.proofs.Choices.{group_0, group_1, group_2, group_3, group_4}
use Rattle.table_choices.proofs.group_of.Goals as goal

pub returns-then-k-lt1 : goal.returns-then-k-lt1
returns-then-k-lt1 c = (group_0 c.args.k c.if-k-lt1.true, omega arith)

pub returns-then-k-lt6 : goal.returns-then-k-lt6
returns-then-k-lt6 c = (group_1 c.args.k c.if-k-lt1.false c.if-k-lt6.true, omega arith)

pub returns-then-k-lt15 : goal.returns-then-k-lt15
returns-then-k-lt15 c = (group_2 c.args.k c.if-k-lt6.false c.if-k-lt15.true, omega arith)

pub returns-then-k-lt28 : goal.returns-then-k-lt28
returns-then-k-lt28 c = (group_3 c.args.k c.if-k-lt15.false c.if-k-lt28.true, omega arith)

pub returns : goal.returns
returns c = (group_4 c.args.k c.if-k-lt28.false, omega arith)

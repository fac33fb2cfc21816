-- `block_positions::one_if_unfinished` meets its contract. Assumes nothing.
use Rattle.block_positions.proofs.Unfinished.{one_unfinished, one_finished}
use Rattle.block_positions.proofs.one_if_unfinished.Goals as goal

pub returns-then-p-lt64 : goal.returns-then-p-lt64
returns-then-p-lt64 c = one_unfinished c.args.p c.if-p-lt64.true

pub returns : goal.returns
returns c = one_finished c.args.p c.if-p-lt64.false

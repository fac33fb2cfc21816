-- `block_positions::run_of` meets its contract. Assumes nothing.
use borrow.Author.Rules.{rules}
use mathlib.Core.Path.{◌∙◌}
use Rattle.block_positions.proofs.Unfinished.{run_all, run_some}
use Rattle.block_positions.proofs.run_of.Goals as goal

pub returns-then-n-eq0 : goal.returns-then-n-eq0
returns-then-n-eq0 c = c.count_unfinished.ensures ∙ run_all c.args.positions.now c.args.n c.if-n-eq0.true

pub returns : goal.returns
returns c = run_some c.args.positions.now c.args.n c.if-n-eq0.false

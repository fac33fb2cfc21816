use native.Mathlib.Omega.{arith}
use mathlib.Core.Path.{refl, ◌∙◌}
use lib.ListN.{length-set}
use Rattle.tokens.proofs.Positions.{written_start, written_on}
use Rattle.tokens.proofs.write_ranks.Goals as goal

pub loop-b-init : goal.loop-b-init
loop-b-init c = (omega arith, refl, written_start c.args.blocks.now)

pub loop-b-preserved : goal.loop-b-preserved
loop-b-preserved c = let n = length-set c.loop-b.blocks c.loop-b.b c.loop-b.b in
    (omega (arith, n), n ∙ c.loop-b.invariant.1, written_on c.loop-b.blocks c.loop-b.b c.loop-b-test.true c.loop-b.invariant.2)

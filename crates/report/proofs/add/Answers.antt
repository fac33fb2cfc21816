use borrow.Author.Rules.{rules}
use native.Mathlib.Omega.{arith}
use mathlib.Core.Path.{◌∙◌}
use lib.ListN.{length-set}
use Rattle.report.proofs.Steps.{midway_first, midway_next, midway_last, at_end}
use Rattle.report.proofs.add.Goals as goal

pub loop-i-init : goal.loop-i-init
loop-i-init c = (omega arith, search rules, λ l h. midway_first l c.args.more.now h.long c.requires _ h)

pub loop-i-preserved : goal.loop-i-preserved
loop-i-preserved c = (
  omega (arith, c.loop-i-test.true),
  length-set c.loop-i.numbers c.loop-i.i c.sum_of-s.result.is ∙ c.loop-i.invariant.1,
  λ l h. midway_next l c.args.more.now h.long c.requires c.loop-i.numbers c.loop-i.i c.loop-i-test.true c.loop-i.invariant.1 c.loop-i.passed
      (c.loop-i.invariant.2 l h) c.sum_of-s.result c.sum_of-s.ensures,
)

pub returns : goal.returns
returns c = λ l h.
    midway_last l c.args.more.now h.long c.requires _ c.loop-i.invariant.1
    (at_end c.loop-i.i c.loop-i-test.false c.loop-i.invariant.0 _ _ _ _ (c.loop-i.invariant.2 l h))

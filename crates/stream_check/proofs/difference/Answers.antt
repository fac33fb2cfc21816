use native.Mathlib.Omega.{arith}
use mathlib.Core.Path.{sym, ◌∙◌}
use borrow.Author.Tests.{leb-true}
use Rattle.stream_check.proofs.Differences.{agree, disagree, shorter}
use Rattle.stream_check.proofs.difference.Goals as goal

pub returns-then-alike : goal.returns-then-alike
returns-then-alike c = shorter c.args.want.now c.args.file.now _ c.lesser-n.ensures (leb-true _ _ (sym c.alike.ensures ∙ c.if-alike.true))

pub returns-then-want-i : goal.returns-then-want-i
returns-then-want-i c = let d = disagree c.args.want.now c.args.file.now c.loop-i.i (omega arith) (omega arith) c.if-want-i.true in
    omega (arith, d, c.loop-i.invariant.1)

pub loop-i-preserved : goal.loop-i-preserved
loop-i-preserved c = let d = agree c.args.want.now c.args.file.now c.loop-i.i (omega arith) (omega arith) c.if-want-i.false c.loop-i.invariant.1 in
    (omega arith, omega arith)

use mathlib.Core.Path.{ap, ◌∙◌}
use mathlib.Core.List.{List}
use native.Mathlib.Omega.{arith}
use lib.ListN.{set, length-set}
use lib.IntN.{ℤ, pos}
use Rattle.buffer.proofs.Laws.{cleared_more}
use Rattle.buffer.proofs.clear_shorts.Goals as goal

pub loop-i-preserved : goal.loop-i-preserved
loop-i-preserved c = let l = c.loop-i in
    (omega arith, simp length-set l.invariant.1, ap (λ (s : List ℤ). set s l.i (pos 0)) l.invariant.2 ∙ cleared_more (pos 0) l.i c.args.slice.now (omega arith))

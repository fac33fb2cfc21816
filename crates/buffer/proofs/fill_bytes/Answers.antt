use Prim.Native.Nat.{ℕ, ◌+◌}
use native.Mathlib.Omega.{arith}
use mathlib.Core.Path.{ap, ◌∙◌}
use mathlib.Core.List.{List}
use lib.ListN.{set, length-set}
use Rattle.buffer.proofs.Laws.{filled_more}
use borrow.Author.Rules.{rules}
use Rattle.buffer.proofs.fill_bytes.Goals as goal

pub loop-k-preserved : goal.loop-k-preserved
loop-k-preserved c = let l = c.loop-k in (search rules, simp length-set l.invariant.1, ap (λ (xs : List ℕ). set xs (c.args.from + l.k) c.args.value) l.invariant.2 ∙ filled_more c.args.bytes.now c.args.from l.k c.args.value (omega arith))

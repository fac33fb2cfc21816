use borrow.Author.Rules.{rules}
use Prim.Native.Nat.{◌+◌, ◌-◌, ◌≤◌}
use native.Mathlib.Omega.{arith}
use mathlib.Core.Path.{◌≡◌}
use lib.ListN.{length, drop, get_or}
use mathlib.Core.List.{[], ◌∷◌}
use Rattle.block_positions.specs.Positions.{unfinished}
use Rattle.block_positions.proofs.Unfinished.{unfinished_next, unfinished_none, unfinished_most}
use Rattle.block_positions.proofs.count_unfinished.Goals as goal

pub overflow_add-n : goal.overflow_add-n
overflow_add-n c = omega (arith, unfinished_next c.args.positions.now c.loop-b.b (omega arith), unfinished_most c.args.positions.now, c.one_if_unfinished-n.ensures)

pub loop-b-preserved : goal.loop-b-preserved
loop-b-preserved c = let n = unfinished_next c.args.positions.now c.loop-b.b (omega arith) in
    let o = unfinished_most (get_or c.args.positions.now c.loop-b.b 0 ∷ []) in
    (omega arith, omega (arith, o, c.one_if_unfinished-n.ensures), omega (arith, n, c.one_if_unfinished-n.ensures))

pub returns : goal.returns
returns c = omega (arith, unfinished_none c.args.positions.now c.loop-b.b (omega arith))

-- `tokens::keep_one` meets its contract. Assumes nothing.
use Prim.Native.Nat.{◌+◌}
use native.Mathlib.Omega.{arith}
use lib.ListN.{get_or, set}
use Rattle.tokens.specs.Answer.{KeptOne}
use Rattle.tokens.proofs.Unfinished.{one_moved}
use Rattle.tokens.proofs.keep_one.Goals as goal

pub overflow_add-result : goal.overflow_add-result
overflow_add-result c =
    let done : KeptOne c.args.positions.now c.args.blocks.now c.args.j c.args.kept (set c.args.blocks.now c.args.kept (get_or c.args.blocks.now c.args.j 0)) (c.args.kept + c.one_if_unfinished.result) =
    rw c.one_if_unfinished.ensures (one_moved c.args.positions.now c.args.blocks.now c.args.j c.args.kept c.requires.0 c.requires.1) in
    omega (arith, (done).most)

pub returns : goal.returns
returns c =
    let done : KeptOne c.args.positions.now c.args.blocks.now c.args.j c.args.kept (set c.args.blocks.now c.args.kept (get_or c.args.blocks.now c.args.j 0)) (c.args.kept + c.one_if_unfinished.result) =
    rw c.one_if_unfinished.ensures (one_moved c.args.positions.now c.args.blocks.now c.args.j c.args.kept c.requires.0 c.requires.1) in
    done

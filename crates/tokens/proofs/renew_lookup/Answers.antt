-- `tokens::renew_lookup` meets its contract. Assumes nothing.
use Prim.Native.Nat.{◌+◌, ◌*◌}
use native.Mathlib.Omega.{arith}
use Rattle.tokens.proofs.Tables.{nodes_long, wide}
use Rattle.tokens.proofs.renew_lookup.Goals as goal

pub returns : goal.returns
returns c = let e = rw (wide (16 * c.group_of.result + c.args.choice), c.group_of.ensures.0) at c.fill_lookup.ensures in
    (e.size, λ _. e)

pub slice_bounds-fill_lookup-end : goal.slice_bounds-fill_lookup-end
slice_bounds-fill_lookup-end c = omega (arith, nodes_long c.args.nodes.now c.requires.0, c.requires.1, c.group_of.ensures)

-- `geometry::plane_super_block` meets its contract. Assumes nothing.
use Prim.Native.Nat.{◌*◌, ◌/◌, ◌%◌, ◌≤◌}
use native.Mathlib.Nat.{mul-le-mul}
use native.Mathlib.Omega.{arith}
use Rattle.geometry.specs.Sizes.{squares}
use Rattle.geometry.specs.Order.{block_walk}
use Rattle.geometry.specs.Rank.{rank_in}
use Rattle.geometry.proofs.Flat.{super_by}
use Rattle.geometry.proofs.Walks.{block_walk_law}
use Rattle.geometry.proofs.plane_super_block.Goals as goal

pub returns : goal.returns
returns c =
    let few : c.square_of-t.result.u * c.square_of-t.result.v ≤ 16 =
    mul-le-mul {n₂ = 4} {m₂ = 4} (omega (arith, c.square_of-t.ensures.0)) (omega (arith, c.square_of-t.ensures.1)) in
    let r = super_by 4 block_walk (rank_in block_walk) block_walk_law c.args.w c.args.h c.args.k c.square_of-t.result.u c.square_of-t.result.v c.square_of-t.result.first (4 * (c.args.k % squares 4 c.args.w) / 4)
    (4 * (c.args.k / squares 4 c.args.w) / 4) c.requires.0 (omega arith) (omega arith) c.square_of-t.ensures.0 c.square_of-t.ensures.1 c.square_of-t.ensures.2 in
    (r.0, r.1, few)

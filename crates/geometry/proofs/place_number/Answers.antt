-- `geometry::place_number` meets its contract. Assumes nothing.
use mathlib.Core.Path.{◌≡◌}
use Prim.Native.Nat.{◌+◌, ◌*◌, ◌≤◌, ◌<◌}
use lib.ListN.{get_or}
use Rattle.geometry.specs.Order.{at, block_walk, block_order}
use Rattle.geometry.specs.Rank.{rank_in}
use Rattle.geometry.proofs.Products.{plane_small}
use Rattle.geometry.proofs.Orders.{there_by}
use Rattle.geometry.proofs.Walks.{block_walk_law}
use Rattle.geometry.proofs.place_number.Goals as goal

pub returns : goal.returns
returns c =
    let found : let i = c.square_of-t.result.first + c.block_rank.result in
    (i < c.args.h * c.args.w) × (get_or (block_order c.args.w c.args.h) i (at 0 0) ≡ at c.args.x c.args.y) × (c.args.h * c.args.w ≤ 17179344900) =
    let r = there_by 4 block_walk (rank_in block_walk) block_walk_law c.args.w c.args.h c.args.x c.args.y c.square_of-t.result.u c.square_of-t.result.v c.square_of-t.result.first c.block_rank.result
    c.requires.0 c.requires.1 c.square_of-t.ensures.0 c.square_of-t.ensures.1 c.square_of-t.ensures.2 c.block_rank.ensures.0 in
    (r.0, r.1, plane_small c.args.h c.args.w c.requires.3 c.requires.2) in
    let f = found in (f.0, f.1)

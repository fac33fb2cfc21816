-- `geometry::place_at` meets its contract. Assumes nothing.
use mathlib.Core.Path.{◌≡◌}
use Prim.Native.Nat.{◌+◌, ◌<◌}
use native.Mathlib.Omega.{arith}
use lib.ListN.{get_or}
use Rattle.geometry.specs.Order.{at, block_walk, block_order}
use Rattle.geometry.specs.Rank.{rank_in}
use Rattle.geometry.proofs.Orders.{rest_by, place_by}
use Rattle.geometry.proofs.Walks.{block_walk_law}
use borrow.Author.Rules.{rules}
use Rattle.geometry.proofs.place_at.Goals as goal

pub block_in_corner-p-requires : goal.block_in_corner-p-requires
block_in_corner-p-requires c = (
  omega (arith, c.square_at-t.ensures.wide),
  omega (arith, c.square_at-t.ensures.tall),
  rest_by 4 block_walk (rank_in block_walk) block_walk_law c.args.w c.args.h c.args.i c.square_at-t.result.a c.square_at-t.result.b c.square_at-t.result.u c.square_at-t.result.v c.square_at-t.result.rest c.requires.0 c.square_at-t.ensures,
)

pub overflow_add-result : goal.overflow_add-result
overflow_add-result c =
    let found : (c.square_at-t.result.a + c.block_in_corner-p.result.x < c.args.w) × (c.square_at-t.result.b + c.block_in_corner-p.result.y < c.args.h) × (at (c.square_at-t.result.a + c.block_in_corner-p.result.x) (c.square_at-t.result.b + c.block_in_corner-p.result.y) ≡ get_or (block_order c.args.w c.args.h) c.args.i (at 0 0)) =
    place_by 4 block_walk (rank_in block_walk) block_walk_law c.args.w c.args.h c.args.i c.square_at-t.result.a c.square_at-t.result.b c.square_at-t.result.u c.square_at-t.result.v c.square_at-t.result.rest c.requires.0 c.square_at-t.ensures
    c.block_in_corner-p.result c.block_in_corner-p.ensures in
    let f = found in search rules

pub overflow_add-result-2 : goal.overflow_add-result-2
overflow_add-result-2 c =
    let found : (c.square_at-t.result.a + c.block_in_corner-p.result.x < c.args.w) × (c.square_at-t.result.b + c.block_in_corner-p.result.y < c.args.h) × (at (c.square_at-t.result.a + c.block_in_corner-p.result.x) (c.square_at-t.result.b + c.block_in_corner-p.result.y) ≡ get_or (block_order c.args.w c.args.h) c.args.i (at 0 0)) =
    place_by 4 block_walk (rank_in block_walk) block_walk_law c.args.w c.args.h c.args.i c.square_at-t.result.a c.square_at-t.result.b c.square_at-t.result.u c.square_at-t.result.v c.square_at-t.result.rest c.requires.0 c.square_at-t.ensures
    c.block_in_corner-p.result c.block_in_corner-p.ensures in
    let f = found in search rules

pub returns : goal.returns
returns c =
    let found : (c.square_at-t.result.a + c.block_in_corner-p.result.x < c.args.w) × (c.square_at-t.result.b + c.block_in_corner-p.result.y < c.args.h) × (at (c.square_at-t.result.a + c.block_in_corner-p.result.x) (c.square_at-t.result.b + c.block_in_corner-p.result.y) ≡ get_or (block_order c.args.w c.args.h) c.args.i (at 0 0)) =
    place_by 4 block_walk (rank_in block_walk) block_walk_law c.args.w c.args.h c.args.i c.square_at-t.result.a c.square_at-t.result.b c.square_at-t.result.u c.square_at-t.result.v c.square_at-t.result.rest c.requires.0 c.square_at-t.ensures
    c.block_in_corner-p.result c.block_in_corner-p.ensures in
    (found).2

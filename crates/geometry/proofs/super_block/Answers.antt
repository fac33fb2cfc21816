-- `geometry::super_block` meets its contract. Assumes nothing.
use mathlib.Core.Path.{◌≡◌}
use Prim.Native.Nat.{◌+◌, ◌/◌, ◌≤◌}
use lib.ListN.{length}
use Rattle.geometry.specs.Sizes.{blocks_of}
use Rattle.geometry.specs.Order.{in_turn}
use Rattle.geometry.specs.Frame.{super_block_of}
use Rattle.geometry.proofs.SizeLaws.{sizes_small}
use Rattle.geometry.proofs.SuperBlockLaws.{super_by_plane}
use borrow.Author.Rules.{rules}
use Rattle.geometry.proofs.super_block.Goals as goal

pub overflow_add-result : goal.overflow_add-result
overflow_add-result c =
    let found : let m = c.plane_of-q.result.offset / 64 + c.plane_super_block-s.result.first in
    (m ≡ length (in_turn (super_block_of c.args.format c.args.w c.args.h) c.args.k))
    × (c.plane_super_block-s.result.count ≡ length (super_block_of c.args.format c.args.w c.args.h c.args.k))
    × (m + c.plane_super_block-s.result.count ≤ blocks_of c.args.format c.args.w c.args.h) =
    super_by_plane c.args.format c.args.w c.args.h c.args.k c.super_place-t.result.plane c.super_place-t.result.rest c.plane_of-q.result c.requires.2 c.super_place-t.ensures.0 c.super_place-t.ensures.1 c.super_place-t.ensures.2 c.plane_of-q.ensures
    c.plane_super_block-s.result.first c.plane_super_block-s.result.count c.plane_super_block-s.ensures.0 c.plane_super_block-s.ensures.1 in
    let f = (found).2 in
    let n = (sizes_small c.args.format c.args.w c.args.h c.requires.0 c.requires.1).blocks in
    search rules

pub returns : goal.returns
returns c =
    let found : let m = c.plane_of-q.result.offset / 64 + c.plane_super_block-s.result.first in
    (m ≡ length (in_turn (super_block_of c.args.format c.args.w c.args.h) c.args.k))
    × (c.plane_super_block-s.result.count ≡ length (super_block_of c.args.format c.args.w c.args.h c.args.k))
    × (m + c.plane_super_block-s.result.count ≤ blocks_of c.args.format c.args.w c.args.h) =
    super_by_plane c.args.format c.args.w c.args.h c.args.k c.super_place-t.result.plane c.super_place-t.result.rest c.plane_of-q.result c.requires.2 c.super_place-t.ensures.0 c.super_place-t.ensures.1 c.super_place-t.ensures.2 c.plane_of-q.ensures
    c.plane_super_block-s.result.first c.plane_super_block-s.result.count c.plane_super_block-s.ensures.0 c.plane_super_block-s.ensures.1 in
    let f = found in (f.0, f.1, c.plane_super_block-s.ensures.2, f.2)

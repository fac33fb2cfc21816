use Rattle.std.proofs.Common.{◌<◌, arith}
use Rattle.geometry.specs.Sizes.{squares as tiles}
use Rattle.tile_map.proofs.Strips.{reach_inside, reach_eights, marked_is}
use Rattle.tile_map.proofs.mark_tiles.Goals as goal

pub mark-requires : goal.mark-requires
mark-requires c =
    let inside : c.loop-x.x < tiles c.args.tile c.args.row = omega arith in
    let fits = reach_inside c.args.tile c.args.row c.loop-x.x inside c.requires.0 in (
      rw (c.loop-x.invariant.1 c.loop-x.x (omega arith)) (c.requires.4 c.loop-x.x (omega arith)),
      (omega arith, omega arith),
      rw c.min-n.ensures (reach_eights c.args.tile c.args.row c.loop-x.x inside c.requires.0 c.requires.1),
    )

pub returns : goal.returns
returns c = marked_is c.args.previous.now c.args.new.now c.args.from c.args.row c.args.tile c.args.map.now c.loop-x.map (omega arith) (λ x h. c.loop-x.invariant.0 x (omega arith))

-- `geometry::block_number` meets its contract. Assumes nothing.
use Rattle.geometry.proofs.FrameLaws.{number_by}
use mathlib.Core.Path.{◌≡◌}
use Prim.Native.Nat.{◌+◌, ◌/◌, ◌<◌}
use lib.ListN.{get_or}
use Rattle.geometry.specs.Sizes.{blocks_of}
use Rattle.geometry.specs.Frame.{block, frame_order}
use Rattle.geometry.proofs.block_number.Goals as goal

pub returns : goal.returns
returns c =
    let found : let n = c.plane_of-q.result.offset / 64 + c.place_number.result in
    (n < blocks_of c.args.format c.args.w c.args.h) × (get_or (frame_order c.args.format c.args.w c.args.h) n (block 0 0 0) ≡ c.args.b) =
    number_by c.args.format c.args.w c.args.h c.args.b c.plane_of-q.result c.requires.2 c.plane_of-q.ensures c.place_number.result c.place_number.ensures.0 c.place_number.ensures.1 in
    found

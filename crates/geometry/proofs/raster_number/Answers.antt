-- `geometry::raster_number` meets its contract. Assumes nothing.
use Prim.Native.Nat.{◌+◌, ◌*◌, ◌/◌, ◌<◌}
use mathlib.Core.Path.{◌≡◌}
use Rattle.geometry.specs.Sizes.{blocks_of}
use Rattle.geometry.specs.Raster.{raster_number}
use Rattle.geometry.proofs.RasterLaws.{raster_by}
use Rattle.geometry.proofs.raster_number.Goals as goal

pub returns : goal.returns
returns c =
    let found : let n = c.plane_of-q.result.offset / 64 + (c.args.b.y * c.plane_of-q.result.across + c.args.b.x) in
    (n ≡ raster_number c.args.format c.args.w c.args.h c.args.b) × (n < blocks_of c.args.format c.args.w c.args.h) =
    raster_by c.args.format c.args.w c.args.h c.args.b c.requires.2 c.plane_of-q.result c.plane_of-q.ensures in
    found

-- `geometry::block_at` meets its contract. Assumes nothing.
use Rattle.geometry.proofs.SizeLaws.{plane_of_small}
use Rattle.geometry.proofs.FrameLaws.{at_fits, at_by}
use Prim.Native.Nat.{◌-◌, ◌*◌, ◌/◌, ◌≤◌, ◌<◌}
use Rattle.geometry.proofs.block_at.Goals as goal

pub place_at-s-requires : goal.place_at-s-requires
place_at-s-requires c =
    let fits : (c.plane_of-q.result.offset / 64 ≤ c.args.i) × (c.args.i - c.plane_of-q.result.offset / 64 < c.plane_of-q.result.up * c.plane_of-q.result.across) =
    at_fits c.args.format c.args.w c.args.h c.plane_with-p.result c.args.i c.plane_of-q.result c.plane_with-p.ensures.0 c.plane_with-p.ensures.1 c.plane_with-p.ensures.2 c.plane_of-q.ensures in
    let n = plane_of_small c.args.format c.args.w c.args.h c.requires.0 c.requires.1 c.plane_of-q.result c.plane_with-p.result c.plane_with-p.ensures.0 c.plane_of-q.ensures in
    ((fits).1, n.across, n.up)

pub returns : goal.returns
returns c = at_by c.args.format c.args.w c.args.h c.plane_with-p.result c.args.i c.plane_of-q.result c.plane_with-p.ensures.0 c.plane_with-p.ensures.1 c.plane_with-p.ensures.2 c.plane_of-q.ensures
    c.place_at-s.result c.place_at-s.ensures

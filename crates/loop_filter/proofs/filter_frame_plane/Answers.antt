-- `loop_filter::filter_frame_plane` meets its contract.
-- Assumes nothing.
use native.Mathlib.Omega.{arith}
use Rattle.loop_filter.proofs.Frame.{plane_room}
use Rattle.loop_filter.proofs.filter_frame_plane.Goals as goal

pub filter_plane-requires : goal.filter_plane-requires
filter_plane-requires c = let r = plane_room c.args.format c.args.w c.args.h c.args.p c.plane_of-q.result c.requires.2 c.plane_of-q.ensures in
    omega arith

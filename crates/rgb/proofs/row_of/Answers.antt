-- `rgb::row_of` meets its contract. Assumes nothing.
use Prim.Native.Nat.{◌+◌, ◌*◌, ◌≤◌}
use native.Mathlib.Omega.{arith}
use Rattle.rgb.proofs.Rows.{run_small, run_by}
use Rattle.rgb.proofs.row_of.Goals as goal

pub overflow_add-start : goal.overflow_add-start
overflow_add-start c =
    let small : c.plane_of-q.result.offset + c.args.y * (8 * c.plane_of-q.result.across) + 8 * c.plane_of-q.result.across ≤ 3298434220800 =
    run_small c.args.format c.args.w c.args.h c.args.p c.args.y c.requires.2 c.requires.3 c.requires.0 c.requires.1 c.plane_of-q.result c.plane_of-q.ensures in
    record { fits = omega (arith, small) }

pub overflow_add-end : goal.overflow_add-end
overflow_add-end c =
    let small : c.plane_of-q.result.offset + c.args.y * (8 * c.plane_of-q.result.across) + 8 * c.plane_of-q.result.across ≤ 3298434220800 =
    run_small c.args.format c.args.w c.args.h c.args.p c.args.y c.requires.2 c.requires.3 c.requires.0 c.requires.1 c.plane_of-q.result c.plane_of-q.ensures in
    record { fits = omega (arith, small) }

pub returns : goal.returns
returns c = run_by c.args.format c.args.w c.args.h c.args.p c.args.y c.requires.2 c.requires.3 c.requires.0 c.requires.1 c.plane_of-q.result c.plane_of-q.ensures

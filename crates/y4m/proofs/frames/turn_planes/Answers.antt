use native.Mathlib.Omega.{arith}
use mathlib.Core.Path.{refl, ◌∙◌}
use Rattle.geometry.proofs.SizeLaws.{plane_of_small}
use Rattle.y4m.specs.Stream.{plane_rows}
use Rattle.y4m.proofs.FrameLaws.{turn_none, plane_end, plane_more, planes_all}
use Rattle.y4m.proofs.frames.turn_planes.Goals as goal

pub loop-p-init : goal.loop-p-init
loop-p-init c = (omega arith, refl, turn_none (plane_rows c.args.format c.args.w c.args.h c.args.src.now) 0 c.args.dst.now)

pub overflow_add-end : goal.overflow_add-end
overflow_add-end c = let s = plane_of_small c.args.format c.args.w c.args.h c.requires.0 c.requires.1 c.plane_of-plane.result c.loop-p.p c.loop-p-test.true c.plane_of-plane.ensures in record { fits = omega (arith, s.buffer) }

pub loop-p-preserved : goal.loop-p-preserved
loop-p-preserved c = (
  omega arith,
  c.dst-1.given.1 ∙ c.loop-p.invariant.1,
  plane_more c.args.format c.args.w c.args.h c.args.src.now c.requires.2 c.loop-p.p c.loop-p.dst c.args.dst.now c.turn_rows.new.dst c.plane_of-plane.result c.loop-p-test.true c.requires.3 c.plane_of-plane.ensures c.loop-p.invariant.2 c.turn_rows.ensures,
)

pub returns : goal.returns
returns c = planes_all c.args.format c.args.w c.args.h c.args.src.now c.requires.2 c.loop-p.p c.loop-p.dst c.args.dst.now c.loop-p-test.false c.loop-p.invariant.0 c.requires.3 c.loop-p.invariant.2

pub slice_bounds-turn_rows-end : goal.slice_bounds-turn_rows-end
slice_bounds-turn_rows-end c =
    let e = plane_end c.args.format c.args.w c.args.h c.args.src.now c.requires.2 c.loop-p.p c.plane_of-plane.result c.loop-p-test.true c.plane_of-plane.ensures in omega arith

pub slice_bounds-turn_rows-end-in-loop-p : goal.slice_bounds-turn_rows-end-in-loop-p
slice_bounds-turn_rows-end-in-loop-p c =
    let e = plane_end c.args.format c.args.w c.args.h c.loop-p.dst (c.loop-p.invariant.1 ∙ c.requires.3) c.loop-p.p c.plane_of-plane.result c.loop-p-test.true c.plane_of-plane.ensures in
    omega arith

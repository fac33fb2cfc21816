use Prim.Native.Nat.{ℕ}
use native.Mathlib.Omega.{arith}
use mathlib.Core.Path.{sym, ap, ◌∙◌}
use mathlib.Core.List.{List}
use Rattle.geometry.specs.Order.{in_turn}
use Rattle.geometry.proofs.SizeLaws.{plane_of_small}
use Rattle.rows.proofs.Facts.{in_turn_more}
use Rattle.y4m.specs.Stream.{plane_rows}
use Rattle.y4m.proofs.FrameLaws.{plane_end}
use Rattle.stream_check.specs.Compared.{onward}
use Rattle.stream_check.proofs.Onward.{onward_none, onward_parts}
use Rattle.stream_check.proofs.Planes.{plane_turned, planes_three}
use Rattle.stream_check.proofs.compare_planes.Goals as goal

pub loop-p-init : goal.loop-p-init
unfolding in_turn
loop-p-init c = (omega arith, c.requires.3, onward_none c.args.c c.args.file.now)

pub overflow_add-end : goal.overflow_add-end
overflow_add-end c = let s = plane_of_small c.args.format c.args.w c.args.h c.requires.0 c.requires.1 c.plane_of-plane.result c.loop-p.p c.loop-p-test.true c.plane_of-plane.ensures in record { fits = omega (arith, s.buffer) }

pub slice_bounds-compare_rows-end : goal.slice_bounds-compare_rows-end
slice_bounds-compare_rows-end c = let e = plane_end c.args.format c.args.w c.args.h c.args.planes.now c.requires.2 c.loop-p.p c.plane_of-plane.result c.loop-p-test.true c.plane_of-plane.ensures in omega arith

pub loop-p-preserved : goal.loop-p-preserved
loop-p-preserved c = let f = plane_rows c.args.format c.args.w c.args.h c.args.planes.now in (
  omega arith,
  c.compare_rows-compared.ensures.1,
  c.compare_rows-compared.ensures.0 ∙ (λ i. onward (c.loop-p.invariant.2 i) (plane_turned c.args.format c.args.w c.args.h c.args.planes.now c.loop-p.p c.plane_of-plane.result c.plane_of-plane.ensures i) c.args.file.now) ∙ onward_parts c.args.c (in_turn f c.loop-p.p) (f c.loop-p.p) c.args.file.now
      ∙ ap (λ (t : List ℕ). onward c.args.c t c.args.file.now) (sym (in_turn_more f c.loop-p.p)),
)

pub returns : goal.returns
returns c = (c.loop-p.invariant.2 ∙ ap (λ (t : List ℕ). onward c.args.c t c.args.file.now) (planes_three c.args.format c.args.w c.args.h c.args.planes.now c.loop-p.p c.loop-p.invariant.0 c.loop-p-test.false), c.loop-p.invariant.1)

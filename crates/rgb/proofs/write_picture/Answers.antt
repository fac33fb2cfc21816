use Prim.Native.Nat.{ℕ, ◌-◌, ◌*◌, ◌<◌}
use native.Mathlib.Omega.{arith}
use mathlib.Core.Path.{◌≡◌, refl, ap, ◌∙◌}
use mathlib.Core.List.{List}
use lib.ListN.{length}
use Rattle.geometry.specs.Order.{in_turn}
use Rattle.output.specs.Output.{spliced}
use Rattle.rgb.proofs.Rows.{row_from, row_room, row_next, rows_more, picture_is, no_rows}
use Rattle.rgb.proofs.write_picture.Goals as goal

pub loop-y-init : goal.loop-y-init
loop-y-init c = let n = no_rows c.args.format c.args.w c.args.h c.args.planes.now c.args.out.now in
    (omega arith, n.0, refl, n.1)

pub slice_bounds-write_picture_row-end : goal.slice_bounds-write_picture_row-end
slice_bounds-write_picture_row-end c =
    let r = row_room c.args.format c.args.w c.args.h c.args.planes.now c.loop-y.y c.loop-y.at (omega (arith, c.loop-y-test.true)) c.loop-y.invariant.0 c.loop-y.invariant.1
    (length c.args.out.now) c.requires.5 in
    omega (arith, r, c.loop-y.invariant.2)

pub loop-y-preserved : goal.loop-y-preserved
loop-y-preserved c = let t : 0 < c.loop-y.y = omega (arith, c.loop-y-test.true) in (
  omega (arith, c.loop-y.invariant.0),
  row_next c.args.format c.args.w c.args.h c.args.planes.now c.loop-y.y c.loop-y.at t c.loop-y.invariant.0 c.loop-y.invariant.1,
  c.out-1.given.1 ∙ c.loop-y.invariant.2,
  rows_more c.args.format c.args.w c.args.h c.args.planes.now c.loop-y.y c.loop-y.at t c.loop-y.invariant.0 c.loop-y.invariant.1 c.args.out.now c.loop-y.out _ c.requires.5 c.loop-y.invariant.3 c.write_picture_row.ensures,
)

pub returns : goal.returns
returns c = let e : 16 * c.args.h - c.loop-y.y ≡ 16 * c.args.h = omega (arith, c.loop-y-test.false) in
    c.loop-y.invariant.3
    ∙ ap (λ (n : ℕ). spliced 0 (in_turn (row_from c.args.format c.args.w c.args.h c.args.planes.now) n) c.args.out.now) e
    ∙ ap (λ (t : List ℕ). spliced 0 t c.args.out.now) (picture_is c.args.format c.args.w c.args.h c.args.planes.now)

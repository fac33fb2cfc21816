use Prim.Native.Nat.{◌+◌, ◌*◌}
use native.Mathlib.Omega.{arith}
use mathlib.Core.Path.{refl, ◌∙◌}
use Rattle.rgb.proofs.Facts.{none_begun, pixel_more, row_done}
use Rattle.rgb.proofs.write_singles.Goals as goal

pub loop-x-init : goal.loop-x-init
loop-x-init c = (omega arith, refl, none_begun (λ x. x) c.args.luma.now c.args.cb.now c.args.cr.now c.args.out.now)

pub loop-x-preserved : goal.loop-x-preserved
loop-x-preserved c = (
  omega (arith, c.loop-x-test.true),
  c.put_pixel.auto.out ∙ c.loop-x.invariant.1,
  pixel_more (λ x. x) c.args.luma.now c.args.cb.now c.args.cr.now c.loop-x.x c.loop-x.x (3 * c.loop-x.x) c.loop-x.out _ refl refl c.loop-x.invariant.2 c.put_pixel.ensures,
)

pub returns-then-x-luma : goal.returns-then-x-luma
returns-then-x-luma c = row_done (λ x. x) c.args.luma.now c.args.cb.now c.args.cr.now (c.loop-x.x + 1) _ (omega (arith, c.if-x-luma.true, c.loop-x-test.false)) (c.put_pixel-then-x-luma.auto.out ∙ c.loop-x.invariant.1 ∙ c.requires.tables_value.2)
    (pixel_more (λ x. x) c.args.luma.now c.args.cb.now c.args.cr.now c.loop-x.x c.loop-x.x (3 * c.loop-x.x) c.loop-x.out _ refl refl c.loop-x.invariant.2 c.put_pixel-then-x-luma.ensures)

pub returns-else-x-luma : goal.returns-else-x-luma
returns-else-x-luma c = row_done (λ x. x) c.args.luma.now c.args.cb.now c.args.cr.now c.loop-x.x c.loop-x.out (omega (arith, c.if-x-luma.false, c.loop-x.invariant.0)) (c.loop-x.invariant.1 ∙ c.requires.tables_value.2) c.loop-x.invariant.2

use Prim.Native.Nat.{◌+◌, ◌*◌, ◌/◌}
use native.Mathlib.Omega.{arith}
use mathlib.Core.Path.{refl, ◌∙◌}
use Rattle.rgb.proofs.Facts.{none_begun, row_done}
use Rattle.rgb.proofs.write_pairs.Goals as goal

pub loop-k-init : goal.loop-k-init
loop-k-init c = (omega arith, refl, none_begun (λ x. x / 2) c.args.luma.now c.args.cb.now c.args.cr.now c.args.out.now)

pub returns-then-k-luma : goal.returns-then-k-luma
returns-then-k-luma c = row_done (λ x. x / 2) c.args.luma.now c.args.cb.now c.args.cr.now (2 * (c.loop-k.k + 1)) _ (omega (arith, c.if-k-luma.true, c.loop-k-test.false, c.requires.tables_value.2)) (c.put_pair-then-k-luma.auto.out ∙ c.loop-k.invariant.1 ∙ c.requires.tables_value.3) c.put_pair-then-k-luma.ensures

pub returns-else-k-luma : goal.returns-else-k-luma
returns-else-k-luma c = row_done (λ x. x / 2) c.args.luma.now c.args.cb.now c.args.cr.now (2 * c.loop-k.k) c.loop-k.out (omega (arith, c.if-k-luma.false, c.loop-k.invariant.0)) (c.loop-k.invariant.1 ∙ c.requires.tables_value.3) c.loop-k.invariant.2

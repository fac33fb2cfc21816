-- `transform::residual` meets its contract. Assumes nothing.
use borrow.Author.Tests.{lt-ltb, le-ltb}
use mathlib.Core.Path.{sym, ap, ◌∙◌}
use mathlib.Core.List.{map}
use native.Mathlib.Omega.{arith}
use lib.IntN.{ℤ}
use lib.ListN.{replicate}
use mir.Syntax.{w16}
use Rattle.numeric.proofs.Known.{back, k_any}
use Rattle.zig_zag.specs.Values.{values}
use Rattle.zig_zag.specs.Placing.{turned}
use Rattle.zig_zag.proofs.Turned.{turned_twice}
use Rattle.zig_zag.proofs.Placed.{values_length}
use Rattle.transform.specs.Block.{inverse}
use Rattle.transform.specs.Residual.{dc_only, rounded, residual}
use Rattle.std.proofs.lemmas.List.{length-take}
use Rattle.transform.proofs.Filled.{filled}
use Rattle.transform.proofs.residual.Goals as goal

pub slice_bounds-fill-end-then-last-lt2 : goal.slice_bounds-fill-end-then-last-lt2
slice_bounds-fill-end-then-last-lt2 c = omega (arith, length-take 64 c.args.out.now)

pub returns-then-last-lt2 : goal.returns-then-last-lt2
unfolding residual
returns-then-last-lt2 c =
    let v = back w16 c.dc_only.result c.dc_only.type_inv ∙ c.dc_only.ensures ∙ ap (λ (x : ℤ). dc_only x c.args.q) (k_any c.ranges.dc).reads in
    filled 64 c.args.out.now c.fill.new.self _ c.requires.2 (c.fill.ensures.after (λ y e. e))
    ∙ ap (replicate 64) v
    ∙ sym (rw (lt-ltb c.args.last 2 (omega (arith, c.if-last-lt2.true))))

pub returns : goal.returns
unfolding residual turned
returns c = c.round_all.ensures
    ∙ ap (map rounded) (c.inverse_transform.ensures
    ∙ ap inverse (ap turned c.dequantize.ensures
    ∙ turned_twice _ (values_length c.args.coefs.now c.args.at _ c.args.q c.args.matrix.now)
    ∙ ap (λ (x : ℤ). values c.args.coefs.now c.args.at x c.args.q c.args.matrix.now) (k_any c.ranges.dc).reads))
    ∙ sym (rw (le-ltb c.args.last 2 (omega (arith, c.if-last-lt2.false))))

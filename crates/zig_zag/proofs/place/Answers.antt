-- `zig_zag::place` meets its contract: a number goes to its other place in a turned block. Assumes nothing.
use mathlib.Core.Path.{refl, ap, ◌∙◌}
use mathlib.Core.List.{List}
use Prim.Native.Nat.{ℕ, ◌+◌}
use native.Mathlib.Omega.{arith}
use lib.IntN.{ℤ, pos}
use lib.ListN.{get_or, set}
use mir.Syntax.{w16}
use mir.Val.{to_z, of_z}
use Rattle.numeric.proofs.Known.{back}
use Rattle.zig_zag.specs.Values.{dequantized}
use Rattle.zig_zag.specs.Placing.{turned, partly}
use Rattle.zig_zag.proofs.Placed.{partly_length, stands_lt, next_placed}
use Rattle.zig_zag.proofs.Turned.{swap, set_turned}
use Rattle.zig_zag.proofs.place.Goals as goal

pub overflow_add-z : goal.overflow_add-z
overflow_add-z c = omega (arith, stands_lt _ _ c.requires.4)

pub offset_bounds-coefs-z : goal.offset_bounds-coefs-z
offset_bounds-coefs-z c = omega (arith, stands_lt _ _ c.requires.4)

pub bounds-coefs-z : goal.bounds-coefs-z
bounds-coefs-z c = omega (arith, stands_lt _ _ c.requires.4)

pub returns : goal.returns
returns c dc q m n e = let part = partly c.args.coefs.now c.args.at dc q c.args.matrix.now in
    let v = to_z w16 (of_z w16 c.dequantized-x.result) in
    let r =
    back w16 c.dequantized-x.result c.dequantized-x.type_inv
    ∙ c.dequantized-x.ensures
    ∙ ap (λ (x : ℤ). dequantized x (get_or c.args.matrix.now c.args.i 0))
    (back w16 (get_or c.args.coefs.now (c.args.at + c.args.p) (pos 0)) c.dequantized-arg-1.given) in
    ap (λ (m : List ℤ). set m (swap c.args.i) v) e
    ∙ set_turned (part c.args.p) c.args.i v (partly_length c.args.coefs.now c.args.at dc q c.args.matrix.now c.args.p) c.requires.4.0
    ∙ ap turned (next_placed c.args.coefs.now c.args.at dc q c.args.matrix.now (part c.args.p) c.args.p c.args.i v c.requires.3 c.requires.4 refl r)
    ∙ ap (λ (m : ℕ). turned (part m)) n

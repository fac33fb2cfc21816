-- `matrix_values::weigh` meets its contract. Assumes nothing.
use Prim.Native.Nat.{◌*◌, ◌/◌, ◌≤◌}
use native.Mathlib.Omega.{arith}
use Rattle.matrix_values.proofs.Reciprocals.{whole_low, whole_high, reciprocal_low, is_light, weights_are}
use Rattle.matrix_values.proofs.weigh.Goals as goal

pub overflow_cast-reciprocal : goal.overflow_cast-reciprocal
overflow_cast-reciprocal c =
    let fits : (32 ≤ c.args.range.size * (63 / c.args.range.size)) × (c.args.range.size * (63 / c.args.range.size) ≤ 63) =
    (whole_low c.args.range.size c.requires.some (omega (arith, c.requires.low)), whole_high c.args.range.size c.requires.some (omega (arith, c.requires.low))) in
    omega (arith, reciprocal_low (c.args.range.size * (63 / c.args.range.size)) (fits).0)

pub returns : goal.returns
returns c = (is_light c.args.range c.args.qi c.requires, weights_are c.args.range c.args.qi c.requires)

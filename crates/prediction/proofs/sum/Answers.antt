-- `prediction::sum` meets its contract.
-- Assumes nothing.
use Rattle.std.proofs.Common.{◌≡◌, ℕ, ℤ, pos, negsuc, ◌+ℤ◌, to_z, of_z, w16, w32, ap, ◌∙◌, arith}
use Rattle.std.specs.Int.{int_max, int_min}
use Rattle.std.proofs.lemmas.Int.{ints, to_z-of_z}
use Rattle.numeric.specs.Clamp.{clamp255}
use Rattle.prediction.proofs.Nearby.{sum_near}
use Rattle.prediction.proofs.sum.Goals as goal

pub returns : goal.returns
returns c =
    let m = c.mean.result in
    let r = c.clamp.result in
    let total : to_z w32 (of_z w32 (to_z w16 (of_z w16 (to_z w16 m +ℤ to_z w16 (of_z w16 r))))) ≡ pos m +ℤ r = omega (arith, ints) in
    let near = c.clamp.ensures.value ∙ ap (λ (z : ℤ). int_max (negsuc 254) (int_min z (pos 255))) (to_z-of_z w16 c.args.residual c.ranges.residual) in
    c.clamp_to_byte.ensures
    ∙ ap clamp255 (total ∙ ap (λ (z : ℤ). pos m +ℤ z) near)
    ∙ sum_near m c.args.residual (omega (arith, c.mean.type_inv))
    ∙ ap (λ (n : ℕ). clamp255 (pos n +ℤ c.args.residual)) c.mean.ensures

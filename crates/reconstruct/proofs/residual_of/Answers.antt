-- `reconstruct::residual_of` meets its contract.
-- Assumes nothing.
use mathlib.Core.Path.{ap, ◌∙◌}
use Prim.Native.Nat.{ℕ, ◌*◌}
use lib.ListN.{get_or}
use mir.Syntax.{w16}
use Rattle.numeric.proofs.Known.{back}
use Rattle.transform.specs.Residual.{residual}
use Rattle.reconstruct.specs.Picture.{type_of}
use Rattle.reconstruct.proofs.Facts.{matrix_first, matrix_part}
use Rattle.reconstruct.proofs.residual_of.Goals as goal

pub returns : goal.returns
returns c = let d = back w16 c.args.dc c.ranges.dc.sfits in
    let q = ap (λ (n : ℕ). get_or c.args.matrices.now n 0) c.matrix_at-first.ensures.0 ∙ matrix_first c.args.matrices.now (type_of c.args.p) c.args.plane in
    let m = matrix_part c.args.matrices.now (type_of c.args.p) c.args.plane c.args.index c.matrix_at-at.result c.matrix_at-at.ensures.0 in
    c.residual.ensures ∙ (λ i. residual c.args.coefs.now (c.args.k * 64) (d i) c.args.last (q i) (m i))

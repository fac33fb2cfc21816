-- `reconstruct::matrix_at` meets its contract.
-- Assumes nothing.
use mathlib.Core.Path.{◌≡◌, ap}
use native.Mathlib.Omega.{arith}
use Rattle.reconstruct.specs.Picture.{type_of}
use Rattle.reconstruct.proofs.matrix_at.Goals as goal

pub returns-in-None : goal.returns-in-None
unfolding type_of
returns-in-None c = let e : type_of c.args.p ≡ 0 = ap type_of c.in-None.is in (omega arith, omega arith)

pub returns-in-Previous : goal.returns-in-Previous
unfolding type_of
returns-in-Previous c = let e : type_of c.args.p ≡ 1 = ap type_of c.in-Previous.is in (omega arith, omega arith)

pub returns-in-Golden : goal.returns-in-Golden
unfolding type_of
returns-in-Golden c = let e : type_of c.args.p ≡ 1 = ap type_of c.in-Golden.is in (omega arith, omega arith)

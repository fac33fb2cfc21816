-- `headers::within_shift` meets its contract. Assumes nothing.
use mathlib.Core.Path.{ap}
use Prim.Native.Nat.{ℕ}
use lib.Dec.{ltb}
use Rattle.headers.specs.Fits.{within_shift}
use Rattle.headers.proofs.Fitting.{one_shifted}
use Rattle.headers.proofs.within_shift.Goals as goal

pub returns : goal.returns
unfolding within_shift
returns c = ap (λ (m : ℕ). ltb c.args.n m) (one_shifted c.args.f c.requires)

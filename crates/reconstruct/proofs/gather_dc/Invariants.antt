-- `reconstruct::gather_dc` meets its contract. The loop's invariant: k of the coefficients are in their places.
-- Assumes nothing.
use mathlib.Core.Path.{◌≡◌}
use mathlib.Core.List.{List}
use Prim.Native.Nat.{ℕ, ◌-◌, ◌*◌, ◌≤◌}
use lib.IntN.{ℤ, pos}
use lib.ListN.{length, get_or, set}
use Rattle.ways.specs.Loops.{up_to}
use Rattle.reconstruct.proofs.gather_dc.Given as goal

-- one coefficient
abbrev put : List ℕ → List ℤ → ℕ → List ℤ → List ℤ
put coded coefs k s = set s (get_or coded k 0) (get_or coefs (k * 64) (pos 0))

abbrev pub invariant-loop-k : goal.invariant-loop-k
invariant-loop-k l = (l.k ≤ l.count) × (length l.dc ≡ length l.initial.dc) × (l.dc ≡ up_to l.k (put l.coded l.coefs) l.initial.dc)

abbrev pub decreases-loop-k : goal.decreases-loop-k
decreases-loop-k l = l.count - l.k

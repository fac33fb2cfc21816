-- `matrices::fill_matrix` meets its contract. The invariant: the values so far, all by the scale of AC, stand at the front of `out`. Assumes nothing.
use Prim.Native.Nat.{ℕ, ◌+◌, ◌-◌, ◌*◌, ◌≤◌, ◌<◌}
use mathlib.Core.Path.{◌≡◌}
use mathlib.Core.List.{List}
use lib.ListN.{length, get_or}
use Rattle.bitstream.specs.Bits.{number}
use Rattle.matrix_values.specs.Values.{scaled}
use Rattle.matrix_values.specs.Weights.{weighed}
use Rattle.matrix_values.specs.declared.Weights.{Weights}
use Rattle.matrices.proofs.fill_matrix.Given as goal

-- the value at the coefficient c, by one scale and least value
abbrev by : List ℕ → (first second : ℕ) → Weights → (low scale c : ℕ) → ℕ
by p first second w low scale c = scaled low scale (weighed w (number p (first + c * 8) 8) (number p (second + c * 8) 8))

abbrev pub invariant-loop-c : goal.invariant-loop-c
invariant-loop-c l = (l.c ≤ 64) × (length l.out ≡ 64) × ((j : ℕ) → j < l.c → get_or l.out j 0 ≡ by l.packet l.first l.second l.weights l.low l.ac j)

abbrev pub decreases-loop-c : goal.decreases-loop-c
decreases-loop-c l = 64 - l.c

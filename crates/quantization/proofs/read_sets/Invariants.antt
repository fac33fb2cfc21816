-- `quantization::read_sets` meets its contract. The invariant: the sets so far lie in the two slices. Assumes nothing.
use Prim.Native.Nat.{◌-◌, ◌≤◌}
use Rattle.quantization.proofs.Sets.{Sets}
use Rattle.quantization.proofs.read_sets.Given as goal

abbrev pub invariant-loop-k : goal.invariant-loop-k
invariant-loop-k l = (l.k ≤ 6) × Sets l.count l.packet l.at l.place l.k l.sizes l.indices

abbrev pub decreases-loop-k : goal.decreases-loop-k
decreases-loop-k l = 6 - l.k

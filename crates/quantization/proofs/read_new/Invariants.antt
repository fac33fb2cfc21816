-- `quantization::read_new` meets its contract. The invariant: the sizes and the indices so far stand at the front of the two slices. Assumes nothing.
use Prim.Native.Nat.{◌-◌}
use Rattle.quantization.proofs.Sets.{Reading}
use Rattle.quantization.proofs.read_new.Given as goal

abbrev pub invariant-loop-reached : goal.invariant-loop-reached
invariant-loop-reached l = Reading l.count l.packet l.at l.initial.sizes l.initial.indices l.place l.reached l.k l.sizes l.indices

abbrev pub decreases-loop-reached : goal.decreases-loop-reached
decreases-loop-reached l = 63 - l.reached

-- `mode_schemes::read_ranks` meets its contract. The invariant: the ranks from the start are those of what is left. Assumes nothing.
use Prim.Native.Nat.{◌-◌, ◌≤◌}
use mathlib.Core.Path.{◌≡◌}
use Rattle.mode_schemes.specs.Schemes.{ranks_from}
use Rattle.mode_schemes.proofs.read_ranks.Given as goal

abbrev pub invariant-loop-m : goal.invariant-loop-m
invariant-loop-m l = (l.m ≤ 8) × (ranks_from 8 0 l.initial.alphabet l.packet l.at ≡ ranks_from (8 - l.m) l.m l.alphabet l.packet l.place)

abbrev pub decreases-loop-m : goal.decreases-loop-m
decreases-loop-m l = 8 - l.m

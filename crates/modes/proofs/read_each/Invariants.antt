-- `modes::read_each` meets its contract. The invariant: the modes from the start are those stored and those of what is left. Assumes nothing.
use Prim.Native.Nat.{◌-◌, ◌≤◌}
use mathlib.Core.Path.{◌≡◌}
use mathlib.Core.List.{[]}
use lib.ListN.{length, take}
use Rattle.modes.specs.Modes.{modes_from}
use Rattle.modes.proofs.read_each.Given as goal

abbrev pub invariant-loop-m : goal.invariant-loop-m
invariant-loop-m l = (length l.modes ≡ length l.initial.modes) × (l.n ≡ length l.modes) × (l.m ≤ l.n) × (modes_from l.scheme l.alphabet l.flags l.n 0 [] l.packet l.at ≡ modes_from l.scheme l.alphabet l.flags (l.n - l.m) l.m (take l.m l.modes) l.packet l.place)

abbrev pub decreases-loop-m : goal.decreases-loop-m
decreases-loop-m l = l.n - l.m

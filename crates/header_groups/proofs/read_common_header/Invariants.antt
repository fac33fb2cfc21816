-- `header_groups::read_common_header` meets its contract. The invariant: what is left to spell is the bytes from number i. Assumes nothing.
use Prim.Native.Nat.{◌-◌, ◌≤◌}
use mathlib.Core.Path.{◌≡◌}
use mathlib.Core.List.{◌∷◌}
use lib.ListN.{drop}
use Rattle.header_groups.specs.Judgement.{spelled, theora, common_header}
use Rattle.header_groups.proofs.read_common_header.Given as goal

abbrev pub invariant-loop-i : goal.invariant-loop-i
invariant-loop-i l = (l.i ≤ 7) × (common_header l.mark l.packet l.at ≡ spelled (drop l.i (l.mark ∷ theora)) l.packet l.place)

abbrev pub decreases-loop-i : goal.decreases-loop-i
decreases-loop-i l = 7 - l.i

-- `coded_flags::spread_flags` meets its contract. The invariant: the flags so far, and what is left of the three strings. Assumes nothing.
use Prim.Native.Nat.{◌-◌}
use mathlib.Core.Path.{◌≡◌}
use lib.ListN.{length}
use Rattle.coded_flags.proofs.Spread.{Spreading}
use Rattle.coded_flags.proofs.spread_flags.Given as goal

abbrev pub invariant-loop-k : goal.invariant-loop-k
invariant-loop-k l = (length l.flags ≡ length l.initial.flags) × Spreading l.format l.w l.h l.partly l.full l.bits l.flags l.k l.taken

abbrev pub decreases-loop-k : goal.decreases-loop-k
decreases-loop-k l = length l.partly - l.k

-- `census::count_packets` meets its contract. Assumes nothing.
use borrow.Author.Rules.{rules}
use Prim.Native.Nat.{ℕ, ◌+◌, ◌-◌, ◌≤◌, ◌^◌}
use native.Mathlib.Omega.{arith}
use mathlib.Core.Path.{◌≡◌, ap, subst, subst⁻¹}
use mathlib.Core.List.{List}
use lib.ListN.{length, take, drop}
use Rattle.bitstream.proofs.Spends.{readable_short}
use Rattle.work_memory.specs.Memory.{Work, work}
use Rattle.reading.specs.Answer.{read}
use Rattle.tally.specs.Counted.{counted_by}
use Rattle.census.proofs.Loop.{Going, going_first, going_last, going_on, end_few, work_same, nodes_whole, counted_is, counted_numbered}
use Rattle.census.proofs.count_packets.Given as goal

abbrev pub invariant-loop-i : goal.invariant-loop-i
invariant-loop-i l = Going l.table l.lengths l.packets l.start l.initial.session l.initial.sums l.session l.sums (work l.records l.coded l.coefs l.lasts l.flags l.bits l.supers l.modes l.active) l.at l.i

abbrev pub decreases-loop-i : goal.decreases-loop-i
decreases-loop-i l = length l.lengths - l.i

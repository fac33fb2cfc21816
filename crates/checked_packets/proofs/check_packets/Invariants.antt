-- `checked_packets::check_packets` meets its contract. Assumes nothing.
use Prim.Native.Nat.{ℕ, ◌+◌, ◌-◌, ◌*◌}
use native.Mathlib.Omega.{arith}
use mathlib.Core.Path.{◌≡◌, sym, ap, ◌∙◌}
use mathlib.Core.List.{List, [], ◌∷◌, ◌++◌}
use borrow.Author.Rules.{rules}
use lib.ListN.{length, take}
use borrow.Rule.Slice.PartMut.{mid_len, post_of}
use Rattle.work_memory.specs.Memory.{Memory, memory}
use Rattle.kept_matrices.specs.Kept.{Keeps}
use Rattle.shot_packets.proofs.Rules.{loaded_whole}
use Rattle.shot_packets.proofs.Loop.{end_few, slots_few, work_same, first_same, second_same, third_same}
use Rattle.checked_packets.proofs.Watching.{Watching, watching_first, watching_last, watching_on, frames_long}
use Rattle.checked_packets.proofs.check_packets.Given as goal

abbrev pub invariant-loop-i : goal.invariant-loop-i
invariant-loop-i l = Watching l.table l.lengths l.packets l.file l.initial.session (l.initial.first ∷ l.initial.second ∷ l.initial.third ∷ []) l.initial.both (memory l.initial.records l.initial.coded l.initial.coefs l.initial.dc l.initial.lasts l.initial.flags l.initial.bits l.initial.supers l.initial.modes l.initial.active) l.initial.seen l.session l.first l.second l.third l.both (memory l.records l.coded l.coefs l.dc l.lasts l.flags l.bits l.supers l.modes l.active) l.answers l.seen l.at l.i
    × Keeps l.table l.loaded.parameters l.kept

abbrev pub decreases-loop-i : goal.decreases-loop-i
decreases-loop-i l = length l.lengths - l.i

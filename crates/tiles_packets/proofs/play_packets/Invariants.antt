-- `tiles_packets::play_packets` meets its contract. Assumes nothing.
use Prim.Native.Nat.{ℕ, ◌+◌, ◌-◌}
use native.Mathlib.Omega.{arith}
use mathlib.Core.Path.{◌≡◌, refl, sym, ap, ◌∙◌}
use mathlib.Core.List.{[], ◌∷◌}
use borrow.Author.Rules.{rules}
use lib.ListN.{length}
use Rattle.work_memory.specs.Memory.{Memory, memory}
use Rattle.kept_matrices.specs.Kept.{Keeps}
use Rattle.shot_packets.specs.Play.{shot}
use Rattle.shot_packets.proofs.Rules.{loaded_whole}
use Rattle.shot_packets.proofs.Loop.{Going, going_first, going_last, going_on, end_few, slots_few, work_same, first_same, second_same, third_same}
use Rattle.shot_maps.proofs.Maps.{MapsGoing, maps_first, maps_last, maps_on, map_ends, maps_same}
use Rattle.tiles_packets.proofs.play_packets.Given as goal

abbrev pub invariant-loop-i : goal.invariant-loop-i
invariant-loop-i l = Going l.table l.lengths l.packets l.initial.session (l.initial.first ∷ l.initial.second ∷ l.initial.third ∷ []) l.initial.both (memory l.initial.records l.initial.coded l.initial.coefs l.initial.dc l.initial.lasts l.initial.flags l.initial.bits l.initial.supers l.initial.modes l.initial.active) l.session l.first l.second l.third l.both (memory l.records l.coded l.coefs l.dc l.lasts l.flags l.bits l.supers l.modes l.active) l.answers l.at l.i
    × MapsGoing l.set l.table l.lengths l.packets (shot l.initial.session (l.initial.first ∷ l.initial.second ∷ l.initial.third ∷ []) l.initial.both (memory l.initial.records l.initial.coded l.initial.coefs l.initial.dc l.initial.lasts l.initial.flags l.initial.bits l.initial.supers l.initial.modes l.initial.active) []) l.initial.maps l.session l.first l.second l.third l.both (memory l.records l.coded l.coefs l.dc l.lasts l.flags l.bits l.supers l.modes l.active) l.maps l.at l.i
    × Keeps l.table l.loaded.parameters l.kept

abbrev pub decreases-loop-i : goal.decreases-loop-i
decreases-loop-i l = length l.lengths - l.i

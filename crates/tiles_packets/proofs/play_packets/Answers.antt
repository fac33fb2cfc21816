use Prim.Native.Nat.{ℕ, ◌+◌, ◌-◌}
use native.Mathlib.Omega.{arith}
use mathlib.Core.Path.{◌≡◌, refl, sym, ap, ◌∙◌}
use mathlib.Core.List.{[], ◌∷◌}
use borrow.Author.Rules.{rules}
use lib.ListN.{length}
use Rattle.work_memory.specs.Memory.{Memory, memory}
use Rattle.kept_matrices.specs.Kept.{Keeps}
use Rattle.shot_packets.specs.Play.{shot}
use Rattle.shot_packets.proofs.Rules.{loaded_whole}
use Rattle.shot_packets.proofs.Loop.{Going, going_first, going_last, going_on, end_few, slots_few, work_same, first_same, second_same, third_same}
use Rattle.shot_maps.proofs.Maps.{MapsGoing, maps_first, maps_last, maps_on, map_ends, maps_same}
use Rattle.tiles_packets.proofs.play_packets.Goals as goal

pub loop-i-init : goal.loop-i-init
loop-i-init c = (
  going_first c.args.table.now c.args.lengths.now c.args.packets.now c.args.s c.args.names _ c.args.first.now c.args.second.now c.args.third.now c.args.answers.now c.requires.lengths_in_bounds.0 c.requires.s_value.0 c.requires.s_value.1 c.requires.active_value.0 c.requires.active_value.1 c.requires.active_value.2 c.requires.active_value.3 c.requires.lengths_in_bounds.1,
  maps_first c.args.set c.args.table.now c.args.lengths.now c.args.packets.now _ c.args.maps.now c.args.s c.args.first.now c.args.second.now c.args.third.now c.args.names _ refl c.requires.lengths_in_bounds.3,
  c.none-kept.ensures c.args.table.now c.args.loaded.parameters,
)

pub packet_end-end-requires : goal.packet_end-end-requires
packet_end-end-requires c = (c.loop-i-test.true, omega (arith, end_few c.loop-i.invariant.0 c.loop-i-test.true, c.well_formed.1.1.1.1.0.0, c.well_formed.1.1.1.1.0.1))

pub slice_bounds-play_packet-end : goal.slice_bounds-play_packet-end
slice_bounds-play_packet-end c = omega (arith, end_few c.loop-i.invariant.0 c.loop-i-test.true, c.packet_end-end.ensures)

pub loop-i-preserved : goal.loop-i-preserved
loop-i-preserved c = (
  going_on c.args.table.now c.args.lengths.now c.args.packets.now c.args.s c.args.names _ _ (loaded_whole c.args.table.now c.requires.s_value.2) c.loop-i.session c.loop-i.first c.loop-i.second c.loop-i.third c.loop-i.both _ c.loop-i.answers c.loop-i.at c.loop-i.i c.loop-i.invariant.0
      c.loop-i-test.true c.packet_end-end.result c.packet_end-end.ensures c.play_packet-played.result.answer _ _ _ c.play_packet-played.result.names _ c.play_packet-played.ensures.answer_after c.first-1.given c.second-1.given c.third-1.given _ _ c.store_packet.ensures.0 c.answers-1.given,
  maps_on c.args.set c.args.table.now c.args.lengths.now c.args.packets.now _ c.args.maps.now c.loop-i.session c.loop-i.first c.loop-i.second c.loop-i.third c.loop-i.both _ c.loop-i.maps c.loop-i.at c.loop-i.i c.loop-i.invariant.1
      c.loop-i.invariant.0.sound c.loop-i.invariant.0.fits c.requires.lengths_in_bounds.2 c.loop-i-test.true c.packet_end-end.result c.packet_end-end.ensures c.play_packet-played.result.answer _ _ _ c.play_packet-played.result.names _ (c.play_packet-played.ensures.answer_after []) _ c.store_packet.ensures.1 c.maps-1.given,
  c.play_packet-played.ensures.keeps,
)

pub returns : goal.returns
returns c = record {
  plays = going_last c.args.table.now c.args.lengths.now c.args.packets.now c.args.s c.args.names _ _ (loaded_whole c.args.table.now c.requires.s_value.2) c.loop-i.session c.loop-i.first c.loop-i.second c.loop-i.third c.loop-i.both _ c.loop-i.answers c.loop-i.at c.loop-i.i c.loop-i.invariant.0 c.loop-i-test.false;
  maps_are = maps_last c.args.set c.args.table.now c.args.lengths.now c.args.packets.now _ c.args.maps.now c.loop-i.session c.loop-i.first c.loop-i.second c.loop-i.third c.loop-i.both _ c.loop-i.maps c.loop-i.at c.loop-i.i c.loop-i.invariant.1 c.loop-i-test.false c.loop-i.invariant.0.few;
}

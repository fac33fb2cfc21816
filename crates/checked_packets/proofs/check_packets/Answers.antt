use Prim.Native.Nat.{ℕ, ◌+◌, ◌-◌, ◌*◌}
use native.Mathlib.Omega.{arith}
use mathlib.Core.Path.{◌≡◌, sym, ap, ◌∙◌}
use mathlib.Core.List.{List, [], ◌∷◌, ◌++◌}
use borrow.Author.Rules.{rules}
use lib.ListN.{length, take}
use borrow.Rule.Slice.PartMut.{mid_len, post_of}
use Rattle.work_memory.specs.Memory.{Memory, memory}
use Rattle.kept_matrices.specs.Kept.{Keeps}
use Rattle.shot_packets.proofs.Rules.{loaded_whole}
use Rattle.shot_packets.proofs.Loop.{end_few, slots_few, work_same, first_same, second_same, third_same}
use Rattle.checked_packets.proofs.Watching.{Watching, watching_first, watching_last, watching_on, frames_long}
use Rattle.checked_packets.proofs.check_packets.Goals as goal

pub loop-i-init : goal.loop-i-init
loop-i-init c = (watching_first c.args.table.now c.args.lengths.now c.args.packets.now c.args.file.now c.args.s c.args.names _ c.args.begun c.args.first.now c.args.second.now c.args.third.now c.args.answers.now c.requires.lengths_in_bounds.0 c.requires.s_value.0 c.requires.s_value.1 c.requires.active_value.0 c.requires.active_value.1 c.requires.active_value.2 c.requires.active_value.3 c.requires.lengths_in_bounds.1 c.requires.lengths_in_bounds.2, c.none-kept.ensures c.args.table.now c.args.loaded.parameters)

pub packet_end-end-requires : goal.packet_end-end-requires
packet_end-end-requires c = (c.loop-i-test.true, omega (arith, end_few c.loop-i.invariant.0.going c.loop-i-test.true, c.well_formed.1.1.1.0.0, c.well_formed.1.1.1.0.1))

pub slice_bounds-play_packet-end : goal.slice_bounds-play_packet-end
slice_bounds-play_packet-end c = omega (arith, end_few c.loop-i.invariant.0.going c.loop-i-test.true, c.packet_end-end.ensures)

pub watch_named-seen-requires : goal.watch_named-seen-requires
watch_named-seen-requires c = let f = frames_long c.loop-i.invariant.0.going c.first-1.given c.second-1.given c.third-1.given in
    (c.requires.s_value.0, f.0, f.1, f.2, c.loop-i.invariant.0.inside)

pub loop-i-preserved : goal.loop-i-preserved
loop-i-preserved c = (
  watching_on c.args.table.now c.args.lengths.now c.args.packets.now c.args.file.now c.args.s c.args.names _ c.args.begun _ (loaded_whole c.args.table.now c.requires.s_value.2) c.loop-i.session c.loop-i.first c.loop-i.second c.loop-i.third c.loop-i.both _ c.loop-i.answers c.loop-i.seen c.loop-i.at c.loop-i.i c.loop-i.invariant.0
      c.loop-i-test.true c.packet_end-end.result c.packet_end-end.ensures c.play_packet-played.result.answer _ _ _ c.play_packet-played.result.names _ c.play_packet-played.ensures.answer_after c.first-1.given c.second-1.given c.third-1.given
      c.watch_named-seen.result c.watch_named-seen.ensures.0 c.watch_named-seen.ensures.1
      _ _ (ap (λ (v : List ℕ). take (8 * c.loop-i.i) c.loop-i.answers ++ (v ++ post_of (8 * c.loop-i.i) (8 * c.loop-i.i + 8 - 8 * c.loop-i.i) c.loop-i.answers)) c.store_answer.ensures) c.answers-1.given.1,
  c.play_packet-played.ensures.keeps,
)

pub returns : goal.returns
returns c = watching_last c.args.table.now c.args.lengths.now c.args.packets.now c.args.file.now c.args.s c.args.names _ c.args.begun _ (loaded_whole c.args.table.now c.requires.s_value.2) c.loop-i.session c.loop-i.first c.loop-i.second c.loop-i.third c.loop-i.both _ c.loop-i.answers c.loop-i.seen c.loop-i.at c.loop-i.i c.loop-i.invariant.0 c.loop-i-test.false

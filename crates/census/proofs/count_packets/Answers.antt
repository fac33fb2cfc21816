use borrow.Author.Rules.{rules}
use Prim.Native.Nat.{ℕ, ◌+◌, ◌-◌, ◌≤◌, ◌^◌}
use native.Mathlib.Omega.{arith}
use mathlib.Core.Path.{◌≡◌, ap, subst, subst⁻¹}
use mathlib.Core.List.{List}
use lib.ListN.{length, take, drop}
use Rattle.bitstream.proofs.Spends.{readable_short}
use Rattle.work_memory.specs.Memory.{Work, work}
use Rattle.reading.specs.Answer.{read}
use Rattle.tally.specs.Counted.{counted_by}
use Rattle.census.proofs.Loop.{Going, going_first, going_last, going_on, end_few, work_same, nodes_whole, counted_is, counted_numbered}
use Rattle.census.proofs.count_packets.Goals as goal

pub packet_end-end-requires : goal.packet_end-end-requires
packet_end-end-requires c = (c.loop-i-test.true, omega (arith, end_few c.args.table.now c.args.lengths.now c.args.packets.now c.args.start c.args.s c.args.running c.loop-i.session c.loop-i.sums _ c.loop-i.at c.loop-i.i c.loop-i.invariant c.loop-i-test.true))

pub slice_bounds-readable-end : goal.slice_bounds-readable-end
slice_bounds-readable-end c = omega (arith, end_few c.args.table.now c.args.lengths.now c.args.packets.now c.args.start c.args.s c.args.running c.loop-i.session c.loop-i.sums _ c.loop-i.at c.loop-i.i c.loop-i.invariant c.loop-i-test.true, c.packet_end-end.ensures)

pub count_packet-counted-requires : goal.count_packet-counted-requires
count_packet-counted-requires c = (c.loop-i.invariant.fits, subst⁻¹ (λ (p : List ℕ). length p ≤ 2 ^ 58) c.readable-packet.ensures (readable_short (take (c.packet_end-end.result - c.loop-i.at) (drop c.loop-i.at c.args.packets.now))), nodes_whole c.args.table.now c.requires.1, c.loop-i.invariant.work)

pub add_packet-sums-requires : goal.add_packet-sums-requires
add_packet-sums-requires c = counted_numbered c.args.table.now c.requires.1 c.loop-i.session (take (c.packet_end-end.result - c.loop-i.at) (drop c.loop-i.at c.args.packets.now)) c.count_packet-counted.result (counted_is c.args.table.now c.requires.1 c.loop-i.session c.loop-i.invariant.fits (take (c.packet_end-end.result - c.loop-i.at) (drop c.loop-i.at c.args.packets.now)) _ c.readable-packet.ensures c.count_packet-counted.result c.count_packet-counted.ensures.value)

pub loop-i-preserved : goal.loop-i-preserved
loop-i-preserved c = let part : List ℕ = take (c.packet_end-end.result - c.loop-i.at) (drop c.loop-i.at c.args.packets.now) in let e : c.count_packet-counted.result ≡ counted_by c.loop-i.session (read c.loop-i.session c.args.table.now part) = (counted_is c.args.table.now c.requires.1 c.loop-i.session c.loop-i.invariant.fits part _ c.readable-packet.ensures c.count_packet-counted.result c.count_packet-counted.ensures.value) in going_on c.args.table.now c.args.lengths.now c.args.packets.now c.args.start c.args.s c.args.running c.loop-i.session c.loop-i.sums _ c.loop-i.at c.loop-i.i c.loop-i.invariant c.loop-i-test.true c.packet_end-end.result c.packet_end-end.ensures c.count_packet-counted.result e _ _ c.add_packet-sums.ensures c.count_packet-counted.ensures.active_after

pub returns : goal.returns
returns c = going_last c.args.table.now c.args.lengths.now c.args.packets.now c.args.start c.args.s c.args.running c.loop-i.session c.loop-i.sums _ c.loop-i.at c.loop-i.i c.loop-i.invariant c.loop-i-test.false

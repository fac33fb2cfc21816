-- `census::count` meets its contract. Assumes nothing.
use borrow.Author.Rules.{rules}
use mathlib.Core.Path.{sym, ◌∙◌}
use lib.ListN.{length, take}
use Rattle.work_memory.specs.Memory.{memory}
use Rattle.packet_list.specs.Packets.{packets_in, total}
use Rattle.census_packets.specs.Recording.{lent, headers_of}
use Rattle.census_packets.proofs.Numbers.{headers_number}
use Rattle.census.proofs.Steps.{headers_are, sound_are, start_fits, frames_are, ends_short, ends_refused, ends_counted}
use Rattle.bitstream.proofs.Clauses.{two}
use Rattle.census.proofs.count.Goals as goal

pub returns-then-report-ne34 : goal.returns-then-report-ne34
returns-then-report-ne34 c = two (λ a b. record { value = a; report_after = b }) (ends_short (lent c.args.table.now (memory c.args.records.now c.args.coded.now c.args.coefs.now c.args.dc.now c.args.lasts.now c.args.flags.now c.args.bits.now c.args.supers.now c.args.modes.now c.args.active.now) c.args.golden.now c.args.previous.now c.args.new.now) (packets_in c.args.lengths.now c.args.packets.now) c.args.report.now c.if-report-ne34.true)

pub add_refusals-sums-requires : goal.add_refusals-sums-requires
add_refusals-sums-requires c = let w = headers_are (total (take 3 c.args.lengths.now)) (headers_of (length c.args.table.now) (packets_in c.args.lengths.now c.args.packets.now)) (sym c.in-Refused.is ∙ c.read_headers.ensures.value) in headers_number (length c.args.table.now) (packets_in c.args.lengths.now c.args.packets.now) w.1

pub count_frames-sums-requires : goal.count_frames-sums-requires
count_frames-sums-requires c = start_fits c.args.lengths.now c.args.packets.now c.args.table.now c.in-Sound.is _ (c.read_headers.ensures.value, c.read_headers.ensures.if_sound) (c.requires)

pub returns-in-Refused : goal.returns-in-Refused
returns-in-Refused c = let w = headers_are (total (take 3 c.args.lengths.now)) (headers_of (length c.args.table.now) (packets_in c.args.lengths.now c.args.packets.now)) (sym c.in-Refused.is ∙ c.read_headers.ensures.value) in two (λ a b. record { value = a; report_after = b }) (ends_refused (lent c.args.table.now (memory c.args.records.now c.args.coded.now c.args.coefs.now c.args.dc.now c.args.lasts.now c.args.flags.now c.args.bits.now c.args.supers.now c.args.modes.now c.args.active.now) c.args.golden.now c.args.previous.now c.args.new.now) (packets_in c.args.lengths.now c.args.packets.now) c.args.report.now c.if-report-ne34.false c.add_refusals-sums.result _ _ c.store.ensures _ w.0 w.1 (c.add_refusals-sums.ensures _ c.begin-running.ensures))

pub returns-in-Sound : goal.returns-in-Sound
returns-in-Sound c = let w = sound_are (total (take 3 c.args.lengths.now)) (headers_of (length c.args.table.now) (packets_in c.args.lengths.now c.args.packets.now)) (sym c.in-Sound.is ∙ c.read_headers.ensures.value) in two (λ a b. record { value = a; report_after = b }) (ends_counted (lent c.args.table.now (memory c.args.records.now c.args.coded.now c.args.coefs.now c.args.dc.now c.args.lasts.now c.args.flags.now c.args.bits.now c.args.supers.now c.args.modes.now c.args.active.now) c.args.golden.now c.args.previous.now c.args.new.now) (packets_in c.args.lengths.now c.args.packets.now) c.args.report.now c.if-report-ne34.false c.count_frames-sums.result _ _ c.store-in-Sound.ensures _ w.0 w.1 (frames_are c.args.lengths.now c.args.packets.now c.args.table.now c.in-Sound.is _ (c.read_headers.ensures.value, c.read_headers.ensures.if_sound) (memory c.args.records.now c.args.coded.now c.args.coefs.now c.args.dc.now c.args.lasts.now c.args.flags.now c.args.bits.now c.args.supers.now c.args.modes.now c.args.active.now) c.args.golden.now c.args.previous.now c.args.new.now _ c.args.report.now (c.count_frames-sums.ensures c.args.report.now c.begin-running.ensures)))

-- `census::count_frames` meets its contract. Assumes nothing.
use mathlib.Core.Path.{refl, sym, ap, ◌∙◌}
use mathlib.Core.List.{[]}
use Rattle.work_memory.specs.Memory.{Memory, memory}
use Rattle.work_memory.specs.Lengths.{lengths_of}
use Rattle.calls.proofs.Lengths.{ranks_fit, memory_fits}
use Rattle.calls.proofs.Calls.{passes, fails}
use Rattle.calls.proofs.Rooms.{lent_is}
use Rattle.census_packets.specs.Recording.{lent}
use Rattle.census.proofs.Steps.{loads, by_read, by_wrong}
use Rattle.census.proofs.count_frames.Goals as goal

pub clear_memory-requires : goal.clear_memory-requires
clear_memory-requires c = ranks_fit c.args.s c.args.golden.now c.args.previous.now c.args.new.now c.args.table.now (memory c.args.records.now c.args.coded.now c.args.coefs.now c.args.dc.now c.args.lasts.now c.args.flags.now c.args.bits.now c.args.supers.now c.args.modes.now c.args.active.now) (passes c.args.s c.args.golden.now c.args.previous.now [] c.args.table.now c.args.new.now (memory c.args.records.now c.args.coded.now c.args.coefs.now c.args.dc.now c.args.lasts.now c.args.flags.now c.args.bits.now c.args.supers.now c.args.modes.now c.args.active.now) (sym (lent_is c.args.s c.args.golden.now c.args.previous.now c.args.new.now [] c.args.table.now (memory c.args.records.now c.args.coded.now c.args.coefs.now c.args.dc.now c.args.lasts.now c.args.flags.now c.args.bits.now c.args.supers.now c.args.modes.now c.args.active.now) refl c.lent_number-k.ensures) ∙ c.if-k-eq0.true)).1

pub count_packets-requires : goal.count_packets-requires
count_packets-requires c = (c.requires.0, loads c.args.table.now c.requires.1 c.load_table-held.ensures, ap (λ (m : Memory). m.work) (c.clear_memory.ensures (lengths_of c.args.s) (memory_fits c.args.s c.args.golden.now c.args.previous.now c.args.new.now c.args.table.now (memory c.args.records.now c.args.coded.now c.args.coefs.now c.args.dc.now c.args.lasts.now c.args.flags.now c.args.bits.now c.args.supers.now c.args.modes.now c.args.active.now) (passes c.args.s c.args.golden.now c.args.previous.now [] c.args.table.now c.args.new.now (memory c.args.records.now c.args.coded.now c.args.coefs.now c.args.dc.now c.args.lasts.now c.args.flags.now c.args.bits.now c.args.supers.now c.args.modes.now c.args.active.now) (sym (lent_is c.args.s c.args.golden.now c.args.previous.now c.args.new.now [] c.args.table.now (memory c.args.records.now c.args.coded.now c.args.coefs.now c.args.dc.now c.args.lasts.now c.args.flags.now c.args.bits.now c.args.supers.now c.args.modes.now c.args.active.now) refl c.lent_number-k.ensures) ∙ c.if-k-eq0.true)).1)), c.requires.2, c.requires.3)

pub returns-then-k-eq0 : goal.returns-then-k-eq0
returns-then-k-eq0 c = by_read (lent c.args.table.now (memory c.args.records.now c.args.coded.now c.args.coefs.now c.args.dc.now c.args.lasts.now c.args.flags.now c.args.bits.now c.args.supers.now c.args.modes.now c.args.active.now) c.args.golden.now c.args.previous.now c.args.new.now) c.args.table.now c.args.lengths.now c.args.packets.now c.args.start c.args.s c.requires.0 c.args.running (passes c.args.s c.args.golden.now c.args.previous.now [] c.args.table.now c.args.new.now (memory c.args.records.now c.args.coded.now c.args.coefs.now c.args.dc.now c.args.lasts.now c.args.flags.now c.args.bits.now c.args.supers.now c.args.modes.now c.args.active.now) (sym (lent_is c.args.s c.args.golden.now c.args.previous.now c.args.new.now [] c.args.table.now (memory c.args.records.now c.args.coded.now c.args.coefs.now c.args.dc.now c.args.lasts.now c.args.flags.now c.args.bits.now c.args.supers.now c.args.modes.now c.args.active.now) refl c.lent_number-k.ensures) ∙ c.if-k-eq0.true)).1 _ c.count_packets.ensures

pub returns : goal.returns
returns c = by_wrong (lent c.args.table.now (memory c.args.records.now c.args.coded.now c.args.coefs.now c.args.dc.now c.args.lasts.now c.args.flags.now c.args.bits.now c.args.supers.now c.args.modes.now c.args.active.now) c.args.golden.now c.args.previous.now c.args.new.now) c.args.table.now c.args.lengths.now c.args.packets.now c.args.start c.args.s c.requires.0 c.args.running (fails c.args.s c.args.golden.now c.args.previous.now [] c.args.table.now c.args.new.now (memory c.args.records.now c.args.coded.now c.args.coefs.now c.args.dc.now c.args.lasts.now c.args.flags.now c.args.bits.now c.args.supers.now c.args.modes.now c.args.active.now) c.requires.0 (λ e. c.if-k-eq0.false ((lent_is c.args.s c.args.golden.now c.args.previous.now c.args.new.now [] c.args.table.now (memory c.args.records.now c.args.coded.now c.args.coefs.now c.args.dc.now c.args.lasts.now c.args.flags.now c.args.bits.now c.args.supers.now c.args.modes.now c.args.active.now) refl c.lent_number-k.ensures) ∙ e))) _ c.refuse_frames.ensures

-- `tiles_shot::shot` meets its contract. Assumes nothing.
use mathlib.Core.Path.{refl, sym, ◌∙◌, subst}
use lib.ListN.{length}
use borrow.Author.Tests.{leb-true}
use Rattle.work_memory.specs.Memory.{memory}
use Rattle.work_memory.specs.Lengths.{lengths_of}
use Rattle.buffer_names.specs.Names.{Sound}
use Rattle.buffer_names.proofs.First.{sound_first}
use Rattle.opening.specs.Call.{shot_call}
use Rattle.opening.proofs.Calls.{passes, accepted, answers_long, memory_fits, ranks_fit, planes_long}
use Rattle.shot.proofs.Calls.{opened_table}
use Rattle.shot_maps.proofs.Fits.{maps_pass}
use Rattle.tiles_shot.proofs.Calls.{left_early, left_late, lent_maps, call_empty, call_some}
use Rattle.tiles_shot.proofs.shot.Goals as goal

pub returns-then-fault-ne0 : goal.returns-then-fault-ne0
returns-then-fault-ne0 c = left_early c.args.set c.args.s c.args.names c.args.lengths.now c.args.packets.now c.args.table.now (memory c.args.records.now c.args.coded.now c.args.coefs.now c.args.dc.now c.args.lasts.now c.args.flags.now c.args.bits.now c.args.supers.now c.args.modes.now c.args.active.now) c.args.first.now c.args.second.now c.args.third.now c.args.answers.now c.args.maps.now c.maps_number-fault.result c.refused.result c.refused.ensures (sym c.maps_number-fault.ensures) c.if-fault-ne0.true

pub returns-then-number-ne0 : goal.returns-then-number-ne0
returns-then-number-ne0 c = left_late c.args.set c.args.s c.args.names c.args.lengths.now c.args.packets.now c.args.table.now (memory c.args.records.now c.args.coded.now c.args.coefs.now c.args.dc.now c.args.lasts.now c.args.flags.now c.args.bits.now c.args.supers.now c.args.modes.now c.args.active.now) c.args.first.now c.args.second.now c.args.third.now c.args.answers.now c.args.maps.now (sym c.maps_number-fault.ensures ∙ c.if-fault-ne0.false) c.open-opened.result.number c.refused-then-number-ne0.result c.refused-then-number-ne0.ensures (sym (c.open-opened.ensures.number_value (memory c.args.records.now c.args.coded.now c.args.coefs.now c.args.dc.now c.args.lasts.now c.args.flags.now c.args.bits.now c.args.supers.now c.args.modes.now c.args.active.now) c.args.first.now c.args.second.now c.args.third.now c.args.answers.now refl refl)) c.if-number-ne0.true

pub returns-then-lengths-eq0 : goal.returns-then-lengths-eq0
returns-then-lengths-eq0 c = call_empty c.args.set c.args.s c.args.names c.args.lengths.now c.args.packets.now c.args.table.now (memory c.args.records.now c.args.coded.now c.args.coefs.now c.args.dc.now c.args.lasts.now c.args.flags.now c.args.bits.now c.args.supers.now c.args.modes.now c.args.active.now) c.args.first.now c.args.second.now c.args.third.now c.args.answers.now c.args.maps.now (sym c.maps_number-fault.ensures ∙ c.if-fault-ne0.false) (sym (c.open-opened.ensures.number_value (memory c.args.records.now c.args.coded.now c.args.coefs.now c.args.dc.now c.args.lasts.now c.args.flags.now c.args.bits.now c.args.supers.now c.args.modes.now c.args.active.now) c.args.first.now c.args.second.now c.args.third.now c.args.answers.now refl refl) ∙ c.if-number-ne0.false) c.if-lengths-eq0.true c.names_of-both.result c.names_of-both.ensures

pub clear_memory-requires : goal.clear_memory-requires
clear_memory-requires c = ranks_fit c.args.s c.args.names c.args.lengths.now c.args.packets.now c.args.table.now (memory c.args.records.now c.args.coded.now c.args.coefs.now c.args.dc.now c.args.lasts.now c.args.flags.now c.args.bits.now c.args.supers.now c.args.modes.now c.args.active.now) c.args.first.now c.args.second.now c.args.third.now c.args.answers.now (accepted (shot_call c.args.s c.args.names c.args.lengths.now c.args.packets.now c.args.table.now (memory c.args.records.now c.args.coded.now c.args.coefs.now c.args.dc.now c.args.lasts.now c.args.flags.now c.args.bits.now c.args.supers.now c.args.modes.now c.args.active.now) c.args.first.now c.args.second.now c.args.third.now c.args.answers.now) (sym (c.open-opened.ensures.number_value (memory c.args.records.now c.args.coded.now c.args.coefs.now c.args.dc.now c.args.lasts.now c.args.flags.now c.args.bits.now c.args.supers.now c.args.modes.now c.args.active.now) c.args.first.now c.args.second.now c.args.third.now c.args.answers.now refl refl) ∙ c.if-number-ne0.false)).0

pub play_packets-ended-requires : goal.play_packets-ended-requires
play_packets-ended-requires c = let m = sym c.maps_number-fault.ensures ∙ c.if-fault-ne0.false in
    let z = (sym (c.open-opened.ensures.number_value (memory c.args.records.now c.args.coded.now c.args.coefs.now c.args.dc.now c.args.lasts.now c.args.flags.now c.args.bits.now c.args.supers.now c.args.modes.now c.args.active.now) c.args.first.now c.args.second.now c.args.third.now c.args.answers.now refl refl) ∙ c.if-number-ne0.false) in
    let w = accepted (shot_call c.args.s c.args.names c.args.lengths.now c.args.packets.now c.args.table.now (memory c.args.records.now c.args.coded.now c.args.coefs.now c.args.dc.now c.args.lasts.now c.args.flags.now c.args.bits.now c.args.supers.now c.args.modes.now c.args.active.now) c.args.first.now c.args.second.now c.args.third.now c.args.answers.now) z in
    let p = w.0 in
    let t = passes _ p in
    let l = planes_long c.args.s c.args.names c.args.lengths.now c.args.packets.now c.args.table.now (memory c.args.records.now c.args.coded.now c.args.coefs.now c.args.dc.now c.args.lasts.now c.args.flags.now c.args.bits.now c.args.supers.now c.args.modes.now c.args.active.now) c.args.first.now c.args.second.now c.args.third.now c.args.answers.now p in record { s_value = (t.0, subst (Sound c.args.s) (sym c.names_of-both.ensures) (sound_first c.args.s c.args.names t.2), opened_table c.args.table.now w.1 c.open-opened.ensures.setup_value); active_value = (c.clear_memory.ensures (lengths_of c.args.s) (memory_fits c.args.s c.args.names c.args.lengths.now c.args.packets.now c.args.table.now (memory c.args.records.now c.args.coded.now c.args.coefs.now c.args.dc.now c.args.lasts.now c.args.flags.now c.args.bits.now c.args.supers.now c.args.modes.now c.args.active.now) c.args.first.now c.args.second.now c.args.third.now c.args.answers.now p), l.0, l.1, l.2); lengths_in_bounds = (leb-true _ _ w.2, answers_long c.args.s c.args.names c.args.lengths.now c.args.packets.now c.args.table.now (memory c.args.records.now c.args.coded.now c.args.coefs.now c.args.dc.now c.args.lasts.now c.args.flags.now c.args.bits.now c.args.supers.now c.args.modes.now c.args.active.now) c.args.first.now c.args.second.now c.args.third.now c.args.answers.now p, (maps_pass c.args.set c.args.s (length c.args.lengths.now) (length c.args.maps.now) m).0, lent_maps c.args.set c.args.s c.args.names c.args.lengths.now c.args.packets.now c.args.table.now (memory c.args.records.now c.args.coded.now c.args.coefs.now c.args.dc.now c.args.lasts.now c.args.flags.now c.args.bits.now c.args.supers.now c.args.modes.now c.args.active.now) c.args.first.now c.args.second.now c.args.third.now c.args.answers.now c.args.maps.now m z) }

pub returns : goal.returns
returns c = let z = (sym (c.open-opened.ensures.number_value (memory c.args.records.now c.args.coded.now c.args.coefs.now c.args.dc.now c.args.lasts.now c.args.flags.now c.args.bits.now c.args.supers.now c.args.modes.now c.args.active.now) c.args.first.now c.args.second.now c.args.third.now c.args.answers.now refl refl) ∙ c.if-number-ne0.false) in
    call_some c.args.set c.args.s c.args.names c.args.lengths.now c.args.packets.now c.args.table.now (memory c.args.records.now c.args.coded.now c.args.coefs.now c.args.dc.now c.args.lasts.now c.args.flags.now c.args.bits.now c.args.supers.now c.args.modes.now c.args.active.now) c.args.first.now c.args.second.now c.args.third.now c.args.answers.now c.args.maps.now (sym c.maps_number-fault.ensures ∙ c.if-fault-ne0.false) z c.if-lengths-eq0.false c.names_of-both.ensures (c.clear_memory.ensures (lengths_of c.args.s) (memory_fits c.args.s c.args.names c.args.lengths.now c.args.packets.now c.args.table.now (memory c.args.records.now c.args.coded.now c.args.coefs.now c.args.dc.now c.args.lasts.now c.args.flags.now c.args.bits.now c.args.supers.now c.args.modes.now c.args.active.now) c.args.first.now c.args.second.now c.args.third.now c.args.answers.now (accepted (shot_call c.args.s c.args.names c.args.lengths.now c.args.packets.now c.args.table.now (memory c.args.records.now c.args.coded.now c.args.coefs.now c.args.dc.now c.args.lasts.now c.args.flags.now c.args.bits.now c.args.supers.now c.args.modes.now c.args.active.now) c.args.first.now c.args.second.now c.args.third.now c.args.answers.now) z).0)) c.play_packets-ended.ensures

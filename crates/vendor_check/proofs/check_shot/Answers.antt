-- `vendor_check::check_shot` meets its contract. Assumes nothing.
use mathlib.Core.Path.{refl, sym, ◌∙◌, subst}
use borrow.Author.Tests.{leb-true}
use Rattle.work_memory.specs.Memory.{memory}
use Rattle.work_memory.specs.Lengths.{lengths_of}
use Rattle.buffer_names.specs.Names.{Sound}
use Rattle.buffer_names.proofs.First.{sound_first}
use Rattle.opening.specs.Call.{shot_call}
use Rattle.opening.proofs.Calls.{passes, accepted, answers_long, memory_fits, ranks_fit, planes_long}
use Rattle.shot.proofs.Calls.{opened_table}
use Rattle.vendor_check.proofs.Calls.{check_refused, check_empty, check_some}
use Rattle.vendor_check.proofs.check_shot.Goals as goal

pub returns-then-number-ne0 : goal.returns-then-number-ne0
returns-then-number-ne0 c = check_refused c.args.s c.args.names c.args.lengths.now c.args.packets.now c.args.table.now (memory c.args.records.now c.args.coded.now c.args.coefs.now c.args.dc.now c.args.lasts.now c.args.flags.now c.args.bits.now c.args.supers.now c.args.modes.now c.args.active.now) c.args.first.now c.args.second.now c.args.third.now c.args.answers.now c.args.file.now c.open-opened.result.number (sym (c.open-opened.ensures.number_value (memory c.args.records.now c.args.coded.now c.args.coefs.now c.args.dc.now c.args.lasts.now c.args.flags.now c.args.bits.now c.args.supers.now c.args.modes.now c.args.active.now) c.args.first.now c.args.second.now c.args.third.now c.args.answers.now refl refl)) c.if-number-ne0.true

pub begin-begun-requires : goal.begin-begun-requires
begin-begun-requires c = (passes _ (accepted (shot_call c.args.s c.args.names c.args.lengths.now c.args.packets.now c.args.table.now (memory c.args.records.now c.args.coded.now c.args.coefs.now c.args.dc.now c.args.lasts.now c.args.flags.now c.args.bits.now c.args.supers.now c.args.modes.now c.args.active.now) c.args.first.now c.args.second.now c.args.third.now c.args.answers.now) (sym (c.open-opened.ensures.number_value (memory c.args.records.now c.args.coded.now c.args.coefs.now c.args.dc.now c.args.lasts.now c.args.flags.now c.args.bits.now c.args.supers.now c.args.modes.now c.args.active.now) c.args.first.now c.args.second.now c.args.third.now c.args.answers.now refl refl) ∙ c.if-number-ne0.false)).0).0

pub returns-then-lengths-eq0 : goal.returns-then-lengths-eq0
returns-then-lengths-eq0 c = check_empty c.args.s c.args.names c.args.lengths.now c.args.packets.now c.args.table.now (memory c.args.records.now c.args.coded.now c.args.coefs.now c.args.dc.now c.args.lasts.now c.args.flags.now c.args.bits.now c.args.supers.now c.args.modes.now c.args.active.now) c.args.first.now c.args.second.now c.args.third.now c.args.answers.now c.args.file.now (sym (c.open-opened.ensures.number_value (memory c.args.records.now c.args.coded.now c.args.coefs.now c.args.dc.now c.args.lasts.now c.args.flags.now c.args.bits.now c.args.supers.now c.args.modes.now c.args.active.now) c.args.first.now c.args.second.now c.args.third.now c.args.answers.now refl refl) ∙ c.if-number-ne0.false) c.if-lengths-eq0.true c.begin-begun.ensures.0 c.conclude.ensures

pub clear_memory-requires : goal.clear_memory-requires
clear_memory-requires c = ranks_fit c.args.s c.args.names c.args.lengths.now c.args.packets.now c.args.table.now (memory c.args.records.now c.args.coded.now c.args.coefs.now c.args.dc.now c.args.lasts.now c.args.flags.now c.args.bits.now c.args.supers.now c.args.modes.now c.args.active.now) c.args.first.now c.args.second.now c.args.third.now c.args.answers.now (accepted (shot_call c.args.s c.args.names c.args.lengths.now c.args.packets.now c.args.table.now (memory c.args.records.now c.args.coded.now c.args.coefs.now c.args.dc.now c.args.lasts.now c.args.flags.now c.args.bits.now c.args.supers.now c.args.modes.now c.args.active.now) c.args.first.now c.args.second.now c.args.third.now c.args.answers.now) (sym (c.open-opened.ensures.number_value (memory c.args.records.now c.args.coded.now c.args.coefs.now c.args.dc.now c.args.lasts.now c.args.flags.now c.args.bits.now c.args.supers.now c.args.modes.now c.args.active.now) c.args.first.now c.args.second.now c.args.third.now c.args.answers.now refl refl) ∙ c.if-number-ne0.false)).0

pub check_packets-seen-requires : goal.check_packets-seen-requires
check_packets-seen-requires c = let w = accepted (shot_call c.args.s c.args.names c.args.lengths.now c.args.packets.now c.args.table.now (memory c.args.records.now c.args.coded.now c.args.coefs.now c.args.dc.now c.args.lasts.now c.args.flags.now c.args.bits.now c.args.supers.now c.args.modes.now c.args.active.now) c.args.first.now c.args.second.now c.args.third.now c.args.answers.now) (sym (c.open-opened.ensures.number_value (memory c.args.records.now c.args.coded.now c.args.coefs.now c.args.dc.now c.args.lasts.now c.args.flags.now c.args.bits.now c.args.supers.now c.args.modes.now c.args.active.now) c.args.first.now c.args.second.now c.args.third.now c.args.answers.now refl refl) ∙ c.if-number-ne0.false) in
    let p = w.0 in
    let t = passes _ p in
    let l = planes_long c.args.s c.args.names c.args.lengths.now c.args.packets.now c.args.table.now (memory c.args.records.now c.args.coded.now c.args.coefs.now c.args.dc.now c.args.lasts.now c.args.flags.now c.args.bits.now c.args.supers.now c.args.modes.now c.args.active.now) c.args.first.now c.args.second.now c.args.third.now c.args.answers.now p in record { s_value = (t.0, subst (Sound c.args.s) (sym c.names_of-both.ensures) (sound_first c.args.s c.args.names t.2), opened_table c.args.table.now w.1 c.open-opened.ensures.setup_value); active_value = (c.clear_memory.ensures (lengths_of c.args.s) (memory_fits c.args.s c.args.names c.args.lengths.now c.args.packets.now c.args.table.now (memory c.args.records.now c.args.coded.now c.args.coefs.now c.args.dc.now c.args.lasts.now c.args.flags.now c.args.bits.now c.args.supers.now c.args.modes.now c.args.active.now) c.args.first.now c.args.second.now c.args.third.now c.args.answers.now p), l.0, l.1, l.2); lengths_in_bounds = (leb-true _ _ w.2, answers_long c.args.s c.args.names c.args.lengths.now c.args.packets.now c.args.table.now (memory c.args.records.now c.args.coded.now c.args.coefs.now c.args.dc.now c.args.lasts.now c.args.flags.now c.args.bits.now c.args.supers.now c.args.modes.now c.args.active.now) c.args.first.now c.args.second.now c.args.third.now c.args.answers.now p, c.begin-begun.ensures.1) }

pub returns : goal.returns
returns c = let z = (sym (c.open-opened.ensures.number_value (memory c.args.records.now c.args.coded.now c.args.coefs.now c.args.dc.now c.args.lasts.now c.args.flags.now c.args.bits.now c.args.supers.now c.args.modes.now c.args.active.now) c.args.first.now c.args.second.now c.args.third.now c.args.answers.now refl refl) ∙ c.if-number-ne0.false) in
    check_some c.args.s c.args.names c.args.lengths.now c.args.packets.now c.args.table.now (memory c.args.records.now c.args.coded.now c.args.coefs.now c.args.dc.now c.args.lasts.now c.args.flags.now c.args.bits.now c.args.supers.now c.args.modes.now c.args.active.now) c.args.first.now c.args.second.now c.args.third.now c.args.answers.now c.args.file.now z c.if-lengths-eq0.false c.names_of-both.ensures (c.clear_memory.ensures (lengths_of c.args.s) (memory_fits c.args.s c.args.names c.args.lengths.now c.args.packets.now c.args.table.now (memory c.args.records.now c.args.coded.now c.args.coefs.now c.args.dc.now c.args.lasts.now c.args.flags.now c.args.bits.now c.args.supers.now c.args.modes.now c.args.active.now) c.args.first.now c.args.second.now c.args.third.now c.args.answers.now (accepted (shot_call c.args.s c.args.names c.args.lengths.now c.args.packets.now c.args.table.now (memory c.args.records.now c.args.coded.now c.args.coefs.now c.args.dc.now c.args.lasts.now c.args.flags.now c.args.bits.now c.args.supers.now c.args.modes.now c.args.active.now) c.args.first.now c.args.second.now c.args.third.now c.args.answers.now) z).0)) c.begin-begun.ensures.0 c.check_packets-seen.ensures c.conclude-2.ensures

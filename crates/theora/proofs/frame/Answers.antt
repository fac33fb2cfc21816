-- `theora::frame` meets its contract. Assumes nothing.
use Prim.Native.Nat.{ℕ, ◌^◌, ◌≤◌}
use mathlib.Core.Path.{refl, sym, ap, ◌∙◌, subst⁻¹}
use mathlib.Core.List.{List}
use lib.ListN.{length}
use Rattle.bitstream.proofs.Spends.{readable_short}
use Rattle.ways.specs.Ways.{first_way}
use Rattle.reading.specs.Answer.{read}
use Rattle.asked_frame.specs.Answer.{state, decoded}
use Rattle.work_memory.specs.Memory.{memory}
use Rattle.work_memory.specs.Lengths.{lengths_of}
use Rattle.calls.proofs.Lengths.{lent_lengths, memory_fits, ranks_fit}
use Rattle.calls.proofs.Calls.{passes, call_refused, call_decoded}
use Rattle.calls.proofs.Rooms.{lent_is}
use Rattle.theora.proofs.frame.Goals as goal

pub returns-then-k-ne0 : goal.returns-then-k-ne0
returns-then-k-ne0 c = call_refused c.args.s c.args.golden.now c.args.previous.now c.args.packet.now c.args.table.now c.args.new.now (memory c.args.records.now c.args.coded.now c.args.coefs.now c.args.dc.now c.args.lasts.now c.args.flags.now c.args.bits.now c.args.supers.now c.args.modes.now c.args.active.now) _ (lent_is c.args.s c.args.golden.now c.args.previous.now c.args.new.now c.args.packet.now c.args.table.now (memory c.args.records.now c.args.coded.now c.args.coefs.now c.args.dc.now c.args.lasts.now c.args.flags.now c.args.bits.now c.args.supers.now c.args.modes.now c.args.active.now) refl c.lent_number-k.ensures) c.if-k-ne0.true c.refusal.result c.refusal.ensures

pub clear_memory-requires : goal.clear_memory-requires
clear_memory-requires c = ranks_fit c.args.s c.args.golden.now c.args.previous.now c.args.new.now c.args.table.now (memory c.args.records.now c.args.coded.now c.args.coefs.now c.args.dc.now c.args.lasts.now c.args.flags.now c.args.bits.now c.args.supers.now c.args.modes.now c.args.active.now) (passes c.args.s c.args.golden.now c.args.previous.now c.args.packet.now c.args.table.now c.args.new.now (memory c.args.records.now c.args.coded.now c.args.coefs.now c.args.dc.now c.args.lasts.now c.args.flags.now c.args.bits.now c.args.supers.now c.args.modes.now c.args.active.now) (sym (lent_is c.args.s c.args.golden.now c.args.previous.now c.args.new.now c.args.packet.now c.args.table.now (memory c.args.records.now c.args.coded.now c.args.coefs.now c.args.dc.now c.args.lasts.now c.args.flags.now c.args.bits.now c.args.supers.now c.args.modes.now c.args.active.now) refl c.lent_number-k.ensures) ∙ c.if-k-ne0.false)).1

pub decode-requires : goal.decode-requires
decode-requires c = let p = passes c.args.s c.args.golden.now c.args.previous.now c.args.packet.now c.args.table.now c.args.new.now (memory c.args.records.now c.args.coded.now c.args.coefs.now c.args.dc.now c.args.lasts.now c.args.flags.now c.args.bits.now c.args.supers.now c.args.modes.now c.args.active.now) (sym (lent_is c.args.s c.args.golden.now c.args.previous.now c.args.new.now c.args.packet.now c.args.table.now (memory c.args.records.now c.args.coded.now c.args.coefs.now c.args.dc.now c.args.lasts.now c.args.flags.now c.args.bits.now c.args.supers.now c.args.modes.now c.args.active.now) refl c.lent_number-k.ensures) ∙ c.if-k-ne0.false) in
    let l = lent_lengths c.args.s c.args.golden.now c.args.previous.now c.args.new.now c.args.table.now (memory c.args.records.now c.args.coded.now c.args.coefs.now c.args.dc.now c.args.lasts.now c.args.flags.now c.args.bits.now c.args.supers.now c.args.modes.now c.args.active.now) p.1 in (
      p.0,
      subst⁻¹ (λ (p : List ℕ). length p ≤ 2 ^ 58) c.readable.ensures (readable_short c.args.packet.now),
      l.3,
      c.clear_memory.ensures (lengths_of c.args.s) (memory_fits c.args.s c.args.golden.now c.args.previous.now c.args.new.now c.args.table.now (memory c.args.records.now c.args.coded.now c.args.coefs.now c.args.dc.now c.args.lasts.now c.args.flags.now c.args.bits.now c.args.supers.now c.args.modes.now c.args.active.now) p.1),
      l.2,
      l.0,
      l.1,
    )

pub returns : goal.returns
returns c = let p = passes c.args.s c.args.golden.now c.args.previous.now c.args.packet.now c.args.table.now c.args.new.now (memory c.args.records.now c.args.coded.now c.args.coefs.now c.args.dc.now c.args.lasts.now c.args.flags.now c.args.bits.now c.args.supers.now c.args.modes.now c.args.active.now) (sym (lent_is c.args.s c.args.golden.now c.args.previous.now c.args.new.now c.args.packet.now c.args.table.now (memory c.args.records.now c.args.coded.now c.args.coefs.now c.args.dc.now c.args.lasts.now c.args.flags.now c.args.bits.now c.args.supers.now c.args.modes.now c.args.active.now) refl c.lent_number-k.ensures) ∙ c.if-k-ne0.false) in
    call_decoded c.args.s c.args.golden.now c.args.previous.now c.args.packet.now c.args.table.now c.args.new.now (memory c.args.records.now c.args.coded.now c.args.coefs.now c.args.dc.now c.args.lasts.now c.args.flags.now c.args.bits.now c.args.supers.now c.args.modes.now c.args.active.now) p.0 p.1 _
    (c.decode.ensures ∙ ap (λ (p : List ℕ). decoded first_way (state c.args.s c.args.golden.now c.args.previous.now) c.args.new.now (read c.args.s c.args.table.now p)) c.readable.ensures)

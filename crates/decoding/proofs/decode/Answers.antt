-- `decoding::decode` meets its contract. Assumes nothing.
use Prim.Native.Nat.{◌*◌}
use native.Mathlib.Omega.{arith}
use mathlib.Core.Path.{◌≡◌, sym, ap, ◌∙◌}
use lib.IntN.{pos}
use lib.ListN.{replicate}
use Rattle.geometry.specs.Sizes.{blocks_of}
use Rattle.geometry.specs.declared.PixelFormat.{PixelFormat}
use Rattle.headers.proofs.Fitting.{fits_macro_blocks}
use Rattle.work_memory.specs.Memory.{Memory}
use Rattle.work_memory.specs.Lengths.{blocks}
use Rattle.setup.proofs.Held.{held_8, genuine_setup, genuine_held, genuine_holds}
use Rattle.decoding.proofs.Answers.{decoded_8, decoded_by}
use borrow.Author.Rules.{rules}
use borrow.Author.Tests.{not-true, not-false}
use Rattle.decoding.proofs.decode.Goals as goal

pub read_packet-ready-requires : goal.read_packet-ready-requires
read_packet-ready-requires c = record { s_value = (c.requires.0, c.requires.1, omega (arith, c.requires.2), (_, genuine_holds c.args.table.now c.load_table-held.ensures c.in-At.is), c.none-nothing.ensures c.args.table.now c.load_table-held.result.setup.parameters); active_value = ap (λ (m : Memory). m.work) c.requires.3 }

pub make_frame-requires : goal.make_frame-requires
make_frame-requires c = let b = (c.read_packet-ready.ensures.ready (genuine_setup c.args.table.now c.load_table-held.ensures c.in-At.is) (genuine_holds c.args.table.now c.load_table-held.ensures c.in-At.is)).accepted c.if-ready.true in
    let k = fits_macro_blocks c.args.s c.requires.0 in
    let n : 64 * blocks c.args.s ≡ 64 * blocks_of c.read_packet-ready.result.format c.args.s.fields.fmbw c.args.s.fields.fmbh = ap (λ (f : PixelFormat). 64 * blocks_of f c.args.s.fields.fmbw c.args.s.fields.fmbh) (sym b.same_format) in (
      k.1,
      k.3,
      b.lent,
      b.behind,
      ap (λ (m : Memory). m.dc) c.requires.3 ∙ ap (λ (f : PixelFormat). replicate (blocks_of f c.args.s.fields.fmbw c.args.s.fields.fmbh) (pos 0)) (sym b.same_format),
      b.few,
      c.requires.4 ∙ n,
      c.requires.5 ∙ n,
      c.requires.6 ∙ n,
    )

pub returns-then-ready : goal.returns-then-ready
returns-then-ready c = let b = (c.read_packet-ready.ensures.ready (genuine_setup c.args.table.now c.load_table-held.ensures c.in-At.is) (genuine_holds c.args.table.now c.load_table-held.ensures c.in-At.is)).accepted c.if-ready.true in
    decoded_by c.args.s c.args.golden.now c.args.previous.now c.args.packet.now c.args.table.now c.args.new.now (genuine_held c.args.table.now c.load_table-held.ensures c.in-At.is) _
    (b.made c.args.golden.now c.args.previous.now _ c.args.new.now c.make_frame.ensures.after _ _ _ _ c.args.dc.now _ (ap (λ (m : Memory). m.dc) c.requires.3)
    (record { records_zero = c.make_frame.ensures.records_after.0; coded_zero = c.make_frame.ensures.records_after.1; coefs_zero = c.make_frame.ensures.records_after.2; dc_zero = c.make_frame.ensures.records_after.3; lasts_zero = c.make_frame.ensures.records_after.4 }))

pub returns-in-Refused : goal.returns-in-Refused
returns-in-Refused c = decoded_8 c.args.s c.args.golden.now c.args.previous.now c.args.packet.now c.args.table.now c.args.new.now (held_8 c.args.table.now c.load_table-held.ensures c.in-Refused.is) c.refusal.result c.refusal.ensures _ c.requires.3

pub returns-else-ready : goal.returns-else-ready
returns-else-ready c = decoded_by c.args.s c.args.golden.now c.args.previous.now c.args.packet.now c.args.table.now c.args.new.now (genuine_held c.args.table.now c.load_table-held.ensures c.in-At.is) _
    ((c.read_packet-ready.ensures.ready (genuine_setup c.args.table.now c.load_table-held.ensures c.in-At.is) (genuine_holds c.args.table.now c.load_table-held.ensures c.in-At.is)).refused c.if-ready.false c.args.golden.now c.args.previous.now c.args.new.now c.args.dc.now (ap (λ (m : Memory). m.dc) c.requires.3))

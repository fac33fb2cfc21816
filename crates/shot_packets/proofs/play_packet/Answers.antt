-- `shot_packets::play_packet` meets its contract. Assumes nothing.
use Prim.Native.Nat.{ℕ, ◌*◌, ◌<◌}
use native.Mathlib.Omega.{arith}
use mathlib.Core.Path.{◌≡◌, sym, ap, ◌∙◌, subst}
use lib.IntN.{pos}
use lib.ListN.{replicate}
use Rattle.geometry.specs.Sizes.{blocks_of}
use Rattle.geometry.specs.declared.PixelFormat.{PixelFormat}
use Rattle.headers.proofs.Fitting.{fits_macro_blocks}
use Rattle.work_memory.specs.Memory.{Memory}
use Rattle.work_memory.specs.Lengths.{blocks}
use Rattle.buffer_names.proofs.Free.{free_is}
use Rattle.shot_packets.proofs.Rules.{apart, loaded_whole, loaded_holds}
use Rattle.shot_packets.proofs.Packet.{part_few, into_is, more_is, put_is}
use borrow.Author.Rules.{rules}
use Rattle.shot_packets.proofs.play_packet.Goals as goal

pub read_packet-ready-requires : goal.read_packet-ready-requires
read_packet-ready-requires c = record { s_value = (c.requires.s_value.0, part_few _ c.args.packet.now c.readable-part.ensures, omega (arith, loaded_whole c.args.table.now c.requires.s_value.2), (c.requires.s_value.2.setup, loaded_holds c.args.table.now c.requires.s_value.2), c.requires.s_value.3); active_value = ap (λ (m : Memory). m.work) c.requires.active_value.0 }

pub make_into-requires : goal.make_into-requires
make_into-requires c = let f = c.free_buffer-free.ensures in record {
  w_le_largest = (λ y.
      let b = (c.read_packet-ready.ensures.ready c.requires.s_value.2.setup (loaded_holds c.args.table.now c.requires.s_value.2)).accepted y in
      let k = fits_macro_blocks c.args.s c.requires.s_value.0 in
      let n : 64 * blocks c.args.s ≡ 64 * blocks_of c.read_packet-ready.result.format c.args.s.fields.fmbw c.args.s.fields.fmbh = ap (λ (f : PixelFormat). 64 * blocks_of f c.args.s.fields.fmbw c.args.s.fields.fmbh) (sym b.same_format) in (
        k.1,
        k.3,
        b.lent,
        b.behind,
        ap (λ (m : Memory). m.dc) c.requires.active_value.0 ∙ ap (λ (f : PixelFormat). replicate (blocks_of f c.args.s.fields.fmbw c.args.s.fields.fmbh) (pos 0)) (sym b.same_format),
        b.few,
        c.requires.active_value.1 ∙ n,
        c.requires.active_value.2 ∙ n,
        c.requires.active_value.3 ∙ n,
      ));
  free_bound = (subst (λ (k : ℕ). k < 3) (sym f) (free_is c.args.names).named, (λ e. (apart c.args.s c.args.names c.requires.s_value.1).0 (e ∙ f)), (λ e. (apart c.args.s c.args.names c.requires.s_value.1).1 (e ∙ f)));
}

pub returns : goal.returns
returns c = let p =
    put_is c.args.s c.requires.s_value.2.setup _ c.read_packet-ready.result _ (c.read_packet-ready.ensures.ready c.requires.s_value.2.setup (loaded_holds c.args.table.now c.requires.s_value.2)) c.args.first.now c.args.second.now c.args.third.now c.args.names c.free_buffer-free.result c.free_buffer-free.ensures c.args.dc.now (ap (λ (m : Memory). m.dc) c.requires.active_value.0)
    _ _ _ _ _ _ _ _ c.make_into.ensures.third_after c.make_into.ensures.first_unchanged in record {
      answer_after = (λ answers. more_is c.args.s c.requires.s_value.0 c.args.first.now c.args.second.now c.args.third.now c.args.names _ c.requires.active_value.0 c.args.table.now c.args.packet.now (loaded_whole c.args.table.now c.requires.s_value.2) c.requires.active_value.1 c.requires.active_value.2 c.requires.active_value.3
          _ (into_is c.args.s c.requires.s_value.0 c.args.table.now c.requires.s_value.2 c.args.packet.now _ c.readable-part.ensures _ _ _ _ p.is) _ p.stands _
          c.after_packet-after.ensures answers);
      keeps = c.read_packet-ready.ensures.keeps;
    }

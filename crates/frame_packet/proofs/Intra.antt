-- "Intra: all coded". Assumes nothing.
use Prim.Native.Nat.{ℕ, ◌≤◌}
use native.Mathlib.Omega.{arith}
use mathlib.Core.Path.{◌≡◌, sym, ap, ◌∙◌}
use mathlib.Core.List.{List, [], ◌∷◌}
use mathlib.Core.Bool.{Bool, true}
use lib.Dec.{eqb}
use lib.ListN.{length, get_or, get_or-replicate}
use Rattle.bitstream.specs.Reading.{got, pure, bind, choose}
use Rattle.bitstream.proofs.Laws.{bind_got}
use Rattle.geometry.specs.declared.PixelFormat.{PixelFormat}
use Rattle.geometry.specs.declared.Block.{Block}
use Rattle.geometry.specs.Sizes.{blocks_of}
use Rattle.geometry.specs.Frame.{InFrame}
use Rattle.geometry.specs.Raster.{raster_number}
use Rattle.geometry.proofs.FrameLaws.{number_of, frame_there}
use Rattle.huffman.specs.Tree.{Tree}
use Rattle.block_record.specs.declared.BlockRecord.{BlockRecord}
use Rattle.block_record.specs.Record.{uncoded, now_coded}
use Rattle.frame_header.specs.declared.Kind.{Kind}
use Rattle.frame_header.specs.declared.Kind.TheVariants.{Intra, Repeat}
use Rattle.coded_flags.specs.Flags.{intra_flags}
use Rattle.coded_flags.specs.Coded.{coded_blocks, coded_luma, coded_records, order}
use Rattle.coded_flags.proofs.Laws.{intra_length}
use Rattle.coded_flags.proofs.Order.{order_at}
use Rattle.coded_flags.proofs.CodedLaws.{record_of_law, coded_in_range}
use Rattle.block_qi.specs.BlockQi.{block_qi}
use Rattle.block_qi.proofs.Laws.{qi_but}
use Rattle.tokens.specs.Tokens.{read_tokens}
use Rattle.packet_body.specs.Frame.{Body, Frame, flags_of, modes_of, vectors_of, body, frame_packet}
use Rattle.packet_body.proofs.Laws.{made, tokens_then, index_then, vectors_then, packet_some}
use Rattle.packet_body.proofs.Fits.{vectors_of_keep, frame_through, packet_repeat, packet_fits}

module _ (f : PixelFormat) (w h : ℕ) where
  -- flags that are all 1 make every record coded
  ones_coded : (b : Block) → InFrame f w h b → (get_or (coded_records f w h (intra_flags f w h)) (raster_number f w h b) uncoded).coded ≡ true
  unfolding intra_flags
  ones_coded b inside =
      let t = frame_there f w h b inside in
      let i = number_of f w h b in
      let e : get_or (order f w h) i 0 ≡ raster_number f w h b = order_at f w h i t.0 ∙ ap (raster_number f w h) t.1 in
      ap (λ (n : ℕ). (get_or (coded_records f w h (intra_flags f w h)) n uncoded).coded) (sym e)
      ∙ ap (λ (r : BlockRecord). r.coded) (record_of_law f w h (intra_flags f w h) (intra_length f w h) i t.0)
      ∙ ap (λ (g : ℕ). (choose (eqb g 1) now_coded uncoded).coded) (get_or-replicate (blocks_of f w h) i 1 0 t.0)

  module _ (trees : List Tree) (p : List ℕ) where
    -- what is read behind the flags changes none of them
    body_coded : (kind : Kind) → kind ≡ Intra → (qis : ℕ) → qis ≤ 3 → (i : ℕ) {b : Body} {e : ℕ} → body f w h trees kind qis p i ≡ got b e
        → (n : ℕ) → (get_or b.records n uncoded).coded ≡ (get_or (coded_records f w h (intra_flags f w h)) n uncoded).coded
    unfolding body flags_of
    body_coded kind y qis few i {b} {e} g n =
        let u = bind_got (flags_of f w h kind) (λ flags. bind (modes_of f w h kind flags) (vectors_then f w h trees kind qis flags)) p i g in
        let flags = u.0 in
        let m = bind_got (modes_of f w h kind flags) (vectors_then f w h trees kind qis flags) p u.1 u.3 in
        let modes = m.0 in
        let v = bind_got (vectors_of f w h kind modes (coded_records f w h flags)) (index_then f w h trees qis flags modes) p m.1 m.3 in
        let q = bind_got (block_qi qis (coded_blocks f w h flags) v.0) (tokens_then f w h trees flags modes) p v.1 v.3 in
        let t = bind_got (read_tokens trees (coded_luma f w h flags) (length (coded_blocks f w h flags))) (λ t. pure (made f w h flags modes q.0 t)) p q.1 q.3 in
        let z : made f w h flags modes q.0 t.0 ≡ b = cc in
        let k = vectors_of_keep f w h kind modes (coded_records f w h flags) p m.1 (coded_in_range f w h flags) v.2 in
        ap (λ (b : Body). (get_or b.records n uncoded).coded) (sym z)
        ∙ ap (λ (r : BlockRecord). r.coded) (qi_but qis few (coded_blocks f w h flags) v.0 p v.1 q.0 q.1 q.2 n)
        ∙ ap (λ (r : BlockRecord). r.coded) (k.but n)
        ∙ ap (λ (l : List ℕ). (get_or (coded_records f w h l) n uncoded).coded) (all_flags kind y flags i u.1 u.2)
      where
        all_flags : (kind : Kind) → kind ≡ Intra → (l : List ℕ) (i d : ℕ) → flags_of f w h kind p i ≡ got l d → l ≡ intra_flags f w h
        all_flags kind y l i d g = let r : got (intra_flags f w h) i ≡ got l d = ap (λ (k : Kind). flags_of f w h k p i) (sym y) ∙ g in cc

  pub intra_coded : (trees : List Tree) (references : Bool) (p : List ℕ) {fr : Frame} {e : ℕ} → frame_packet f w h trees references p ≡ got fr e → fr.header.kind ≡ Intra
      → (b : Block) → InFrame f w h b → (get_or fr.body.records (raster_number f w h b) uncoded).coded ≡ true
  intra_coded trees references [] {fr} g y b inside =
      let r : Repeat ≡ Intra = sym (ap (λ (x : Frame). x.header.kind) (packet_repeat f w h trees references g).0) ∙ y in
      let z : ◌≡◌ {A = ℕ} 0 1 = cc in
      absurd (omega arith)
  intra_coded trees references (q ∷ p) {fr} g y b inside =
      let t = frame_through f w h trees references (q ∷ p) 0 (sym (packet_some f w h trees references (q ∷ p) (omega arith)) ∙ g) in
      body_coded trees (q ∷ p) fr.header.kind y (length fr.header.qis) (packet_fits f w h trees references (q ∷ p) g).most t.0 t.2 (raster_number f w h b)
      ∙ ones_coded b inside

-- What is accepted without references codes every block, an empty packet none. Assumes nothing.
use Prim.Native.Nat.{ℕ, zero, suc, ◌≤◌, ◌<◌}
use native.Mathlib.Omega.{arith}
use mathlib.Core.Path.{◌≡◌, refl, sym, ap, ◌∙◌, subst}
use mathlib.Core.Bool.{Bool, true, false, false≢true}
use mathlib.Core.List.{List, [], ◌∷◌}
use mathlib.Core.Logic.{◌⊎◌, inl, inr}
use lib.Dec.{eqb}
use lib.ListN.{length, get_or, replicate, length-replicate, get_or-replicate}
use Rattle.bitstream.specs.Reading.{Outcome, got, refused, pure, bind, pick, choose}
use Rattle.bitstream.proofs.Laws.{bind_got}
use Rattle.geometry.specs.declared.PixelFormat.{PixelFormat}
use Rattle.geometry.specs.declared.Block.{Block}
use Rattle.geometry.specs.Sizes.{blocks_of}
use Rattle.geometry.specs.Frame.{InFrame, frame_order, block}
use Rattle.geometry.specs.Raster.{raster_number}
use Rattle.geometry.proofs.FrameLaws.{number_of, frame_there}
use Rattle.headers.specs.Sizes.{format}
use Rattle.huffman.specs.Tree.{Tree}
use Rattle.block_record.specs.declared.BlockRecord.{BlockRecord}
use Rattle.block_record.specs.Record.{uncoded, now_coded}
use Rattle.frame_header.specs.declared.Kind.{Kind}
use Rattle.frame_header.specs.declared.Kind.TheVariants.{Intra, Inter, Repeat}
use Rattle.frame_header.specs.Header.{FrameHeader, frame_header}
use Rattle.coded_flags.specs.Flags.{intra_flags}
use Rattle.coded_flags.specs.Coded.{order, coded_blocks, coded_luma, coded_records}
use Rattle.coded_flags.proofs.Order.{order_at}
use Rattle.coded_flags.proofs.CodedLaws.{record_of_law, coded_in_range}
use Rattle.block_qi.specs.BlockQi.{block_qi}
use Rattle.block_qi.proofs.Laws.{qi_but}
use Rattle.frame_packet.specs.Frame.{Body, Frame, is_intra, flags_of, modes_of, vectors_of, body, frame, repeat_frame, frame_packet}
use Rattle.frame_packet.proofs.Laws.{tokens_then, index_then, vectors_then, made, packet_some}
use Rattle.frame_packet.proofs.Fits.{vectors_of_keep, packet_fits, packet_kind, packet_repeat}
use Rattle.reconstruct.specs.Picture.{picture_of, record_of}
use Rattle.reading.specs.Answer.{Asked}
use Rattle.asked_frame.specs.Answer.{State, picture, blocks_asked}
use Rattle.tokens.specs.Tokens.{read_tokens}
use Rattle.calls.specs.Call.{Call, outcome_of}
use Rattle.calls.specs.First.{FirstCodesAll, EmptyCodesNone}
use Rattle.calls.proofs.Tokens.{outcome_got}

module _ (f : PixelFormat) (w h : ℕ) where
  -- the flags of an intra frame are all 1
  intra_coded : (b : Block) → InFrame f w h b → (get_or (coded_records f w h (intra_flags f w h)) (raster_number f w h b) uncoded).coded ≡ true
  unfolding intra_flags
  intra_coded b inside =
      let there = frame_there f w h b inside in
      let i = number_of f w h b in
      let ones : List ℕ = replicate (blocks_of f w h) 1 in
      let at : get_or (order f w h) i 0 ≡ raster_number f w h b = order_at f w h i there.0 ∙ ap (raster_number f w h) there.1 in
      let one : get_or ones i 0 ≡ 1 = get_or-replicate (blocks_of f w h) i 1 0 there.0 in
      ap (λ (n : ℕ). (get_or (coded_records f w h ones) n uncoded).coded) (sym at)
      ∙ ap (λ (r : BlockRecord). r.coded) (record_of_law f w h ones (length-replicate (blocks_of f w h) 1) i there.0)
      ∙ ap (λ (n : ℕ). (choose (eqb n 1) now_coded uncoded).coded) one

  module _ (trees : List Tree) (qis : ℕ) (few : qis ≤ 3) (p : List ℕ) where
    flags_intra : (i : ℕ) {flags : List ℕ} {e : ℕ} → flags_of f w h Intra p i ≡ got flags e → flags ≡ intra_flags f w h
    unfolding flags_of
    flags_intra i g = cc

    -- the blocks of an intra frame say what its flags say
    body_intra : (i : ℕ) {b : Body} {e : ℕ} → body f w h trees Intra qis p i ≡ got b e → (n : ℕ) → (get_or b.records n uncoded).coded ≡ (get_or (coded_records f w h (intra_flags f w h)) n uncoded).coded
    unfolding body
    body_intra i {b} {e} g n =
        let u = bind_got (flags_of f w h Intra) (λ flags. bind (modes_of f w h Intra flags) (vectors_then f w h trees Intra qis flags)) p i g in
        let flags = u.0 in
        let m = bind_got (modes_of f w h Intra flags) (vectors_then f w h trees Intra qis flags) p u.1 u.3 in
        let modes = m.0 in
        let v = bind_got (vectors_of f w h Intra modes (coded_records f w h flags)) (index_then f w h trees qis flags modes) p m.1 m.3 in
        let q = bind_got (block_qi qis (coded_blocks f w h flags) v.0) (tokens_then f w h trees flags modes) p v.1 v.3 in
        let t = bind_got (read_tokens trees (coded_luma f w h flags) (length (coded_blocks f w h flags))) (λ t. pure (made f w h flags modes q.0 t)) p q.1 q.3 in
        let z : made f w h flags modes q.0 t.0 ≡ b = cc in
        ap (λ (b : Body). (get_or b.records n uncoded).coded) (sym z)
        ∙ ap (λ (r : BlockRecord). r.coded) (qi_but qis few (coded_blocks f w h flags) v.0 p v.1 q.0 q.1 q.2 n)
        ∙ ap (λ (r : BlockRecord). r.coded) ((vectors_of_keep f w h Intra modes (coded_records f w h flags) p m.1 (coded_in_range f w h flags) v.2).but n)
        ∙ ap (λ (l : List ℕ). (get_or (coded_records f w h l) n uncoded).coded) (flags_intra i u.2)

  -- so a packet that gives an intra frame codes every block
  module _ (trees : List Tree) (references : Bool) where
    frame_intra : (p : List ℕ) {fr : Frame} {e : ℕ} → length fr.header.qis ≤ 3 → fr.header.kind ≡ Intra → frame f w h trees references p 0 ≡ got fr e
        → (b : Block) → InFrame f w h b → (get_or fr.body.records (raster_number f w h b) uncoded).coded ≡ true
    unfolding frame
    frame_intra p {fr} {e} few intra g b inside =
        let u = bind_got (frame_header references) (λ head. bind (body f w h trees head.kind (length head.qis)) (λ x. pure (both head x))) p 0 g in
        let v = bind_got (body f w h trees u.0.kind (length u.0.qis)) (λ x. pure (both u.0 x)) p u.1 u.3 in
        go u.0 v.0 u.1 v.1 v.2 v.3
      where
        both : FrameHeader → Body → Frame
        both head x = record { header = head; body = x }

        go : (head : FrameHeader) (x : Body) (d k : ℕ) → body f w h trees head.kind (length head.qis) p d ≡ got x k → ◌≡◌ {A = Outcome Frame} (got (both head x) k) (got fr e)
            → (get_or fr.body.records (raster_number f w h b) uncoded).coded ≡ true
        go head x d k hb z =
            let y : both head x ≡ fr = cc in
            let kind : head.kind ≡ Intra = ap (λ (r : Frame). r.header.kind) y ∙ intra in
            let most : length head.qis ≤ 3 = subst (λ (r : Frame). length r.header.qis ≤ 3) (sym y) few in
            let here : body f w h trees Intra (length head.qis) p d ≡ got x k = ap (λ (n : Kind). body f w h trees n (length head.qis) p d) (sym kind) ∙ hb in
            ap (λ (r : Frame). (get_or r.body.records (raster_number f w h b) uncoded).coded) (sym y)
            ∙ body_intra trees (length head.qis) most p d here (raster_number f w h b)
            ∙ intra_coded b inside

    -- without references
    packet_first : (p : List ℕ) {fr : Frame} {e : ℕ} → references ≡ false → frame_packet f w h trees references p ≡ got fr e
        → (fr.header.kind ≡ Intra) × ((b : Block) → InFrame f w h b → (get_or fr.body.records (raster_number f w h b) uncoded).coded ≡ true)
    packet_first [] none g = absurd (false≢true (sym none ∙ (packet_repeat f w h trees references g).2))
    packet_first (x ∷ p) {fr} {e} none g = by (packet_kind f w h trees references (x ∷ p) (omega arith) g)
      where
        by : (fr.header.kind ≡ Intra) ⊎ ((fr.header.kind ≡ Inter) × (references ≡ true)) → (fr.header.kind ≡ Intra) × ((b : Block) → InFrame f w h b → (get_or fr.body.records (raster_number f w h b) uncoded).coded ≡ true)
        by (inl k) = (k, frame_intra (x ∷ p) (packet_fits f w h trees references (x ∷ p) g).most k (sym (packet_some f w h trees references (x ∷ p) (omega arith)) ∙ g))
        by (inr k) = absurd (false≢true (sym none ∙ k.1))

    -- "An empty packet codes no block"
    packet_empty : {fr : Frame} {e : ℕ} → frame_packet f w h trees references [] ≡ got fr e → (n : ℕ) → (get_or fr.body.records n uncoded).coded ≡ false
    packet_empty g n = ap (λ (r : Frame). (get_or r.body.records n uncoded).coded) (packet_repeat f w h trees references g).0 ∙ none (blocks_of f w h) n
      where
        none : (k n : ℕ) → (get_or (replicate k uncoded) n uncoded).coded ≡ false
        none zero n = refl
        none (suc k) zero = refl
        none (suc k) (suc n) = none k n

pub first_codes_all : FirstCodesAll
unfolding picture picture_of record_of
first_codes_all st c a e none r =
    let s = st.session in
    packet_first (format s) s.fields.fmbw s.fields.fmbh a.setup.trees s.references c.packet none (outcome_got st c r).0

pub empty_codes_none : EmptyCodesNone
unfolding picture picture_of record_of
empty_codes_none st c a e empty r b =
    let s = st.session in
    let f = format s in
    let w = s.fields.fmbw in
    let h = s.fields.fmbh in
    packet_empty f w h a.setup.trees s.references (ap (frame_packet f w h a.setup.trees s.references) (sym empty) ∙ (outcome_got st c r).0) (raster_number f w h b)

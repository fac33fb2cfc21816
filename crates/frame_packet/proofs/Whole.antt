-- The whole packet: its header and its body, and work memory afterwards. Assumes nothing.
use Prim.Native.Nat.{ℕ, ◌-◌, ◌*◌, ◌≤◌}
use native.Mathlib.Omega.{arith}
use native.Mathlib.Nat.{sub-zero}
use mathlib.Core.Path.{◌≡◌, refl, sym, ap, ◌∙◌, subst}
use mathlib.Core.List.{List, [], ◌∷◌, map}
use mathlib.Core.Bool.{Bool, true, false}
use lib.IntN.{pos}
use lib.ListN.{length, drop, replicate, length-append}
use Rattle.bitstream.specs.Reading.{Outcome, got, refused, after, choose}
use Rattle.geometry.specs.declared.PixelFormat.{PixelFormat}
use Rattle.geometry.specs.Sizes.{blocks_of, macro_blocks_of}
use Rattle.huffman.specs.Tree.{Tree}
use Rattle.bitstream.specs.declared.End.TheVariants as end
use Rattle.block_record.specs.Record.{uncoded}
use Rattle.block_record.specs.Packed.{packed}
use Rattle.block_record.proofs.Laws.{packed_uncoded}
use Rattle.frame_header.specs.declared.Header.{Header}
use Rattle.frame_header.specs.declared.HeaderRead.{HeaderRead}
use Rattle.frame_header.specs.Header.{FrameHeader, frame_header}
use Rattle.frame_header.specs.Answer as header
use Rattle.coded_flags.proofs.Order.{map_replicate}
use Rattle.packet_body.specs.declared.Read.{Read}
use Rattle.packet_body.specs.declared.Read.TheVariants as read
use Rattle.frame_packet.specs.declared.FrameRead.{FrameRead}
use Rattle.packet_body.specs.Frame.{Body, Frame, body, frame, repeat_frame, frame_packet}
use Rattle.work_memory.specs.Memory.{Work, work}
use Rattle.work_memory.specs.Lengths.{published, cleared}
use Rattle.packet_body.specs.Work.{padded, LeftBy, Left, as_read}
use Rattle.frame_packet.specs.Work.{keeping, work_after, work_kept, as_frame}
use Rattle.packet_body.proofs.Laws.{packet_some}

-- ---- what the answers of the header and of the body say
pub header_refused : (o : Outcome FrameHeader) {r : HeaderRead} {k e : ℕ} → r ≡ header.as_read o → r.done ≡ end.Refused k e → o ≡ refused k e
header_refused (got h d) {r} {k} {e} s g = let t : end.At d ≡ end.Refused k e = sym (ap (λ (x : HeaderRead). x.done) s) ∙ g in let z : ◌≡◌ {A = ℕ} 0 1 = cc in absurd (omega arith)
header_refused (refused j d) {r} {k} {e} s g = let t : end.Refused j d ≡ end.Refused k e = sym (ap (λ (x : HeaderRead). x.done) s) ∙ g in cc

pub header_got : (o : Outcome FrameHeader) {r : HeaderRead} {e : ℕ} → r ≡ header.as_read o → r.done ≡ end.At e → (h : FrameHeader) × (o ≡ got h e) × (r.header ≡ header.as_header h)
header_got (got h d) {r} {e} s g = let t : end.At d ≡ end.At e = sym (ap (λ (x : HeaderRead). x.done) s) ∙ g in (h, cc, ap (λ (x : HeaderRead). x.header) s)
header_got (refused j d) {r} {e} s g = let t : end.Refused j d ≡ end.At e = sym (ap (λ (x : HeaderRead). x.done) s) ∙ g in let z : ◌≡◌ {A = ℕ} 0 1 = cc in absurd (omega arith)

pub body_refused : (o : Outcome Body) {r : Read} {k e : ℕ} → r ≡ as_read o → r ≡ read.Refused k e → o ≡ refused k e
body_refused (got b d) s g = let z : ◌≡◌ {A = ℕ} 0 1 = cc in absurd (omega arith)
body_refused (refused j d) s g = cc

pub body_got : (f : PixelFormat) (w h : ℕ) (m : Work) (o : Outcome Body) {r : Read} {count n e : ℕ} → r ≡ as_read o → Left f w h m o → r ≡ read.Whole count n e
    → (b : Body) × (o ≡ got b e) × (count ≡ length b.coded) × LeftBy f w h b m
body_got f w h m (got b d) {r} {count} {n} {e} s l g = let z : read.Whole (length b.coded) b.tokens.tokens d ≡ read.Whole count n e = sym s ∙ g in (b, cc, cc, l)
body_got f w h m (refused j d) s l g = let z : ◌≡◌ {A = ℕ} 0 1 = cc in absurd (omega arith)

-- ---- a packet with a header
module _ (f : PixelFormat) (w h : ℕ) (trees : List Tree) (references : Bool) (p : List ℕ) (some : 1 ≤ length p) where
  pub packet_header : {k e : ℕ} → frame_header references p 0 ≡ refused k e → frame_packet f w h trees references p ≡ refused k e
  unfolding frame
  packet_header g = packet_some f w h trees references p some ∙ rw g

  module _ (x : Header) (head : FrameHeader) (at : ℕ) (g : frame_header references p 0 ≡ got head at) (e : x ≡ header.as_header head) where
    then_body : frame_packet f w h trees references p ≡ after (body f w h trees x.kind x.count p at) (λ b d. got (record { header = head; body = b }) d)
    unfolding frame
    then_body = packet_some f w h trees references p some ∙ by ∙ (λ i. after (body f w h trees (sym e i).kind (sym e i).count p at) (λ b d. got (record { header = head; body = b }) d))
      where
        by : frame f w h trees references p 0 ≡ after (body f w h trees head.kind (length head.qis) p at) (λ b d. got (record { header = head; body = b }) d)
        by = rw g

    pub packet_body : {k d : ℕ} → body f w h trees x.kind x.count p at ≡ refused k d → frame_packet f w h trees references p ≡ refused k d
    packet_body q = then_body ∙ ap (λ (o : Outcome Body). after o (λ b d. got (record { header = head; body = b }) d)) q

    pub packet_got : {b : Body} {d : ℕ} → body f w h trees x.kind x.count p at ≡ got b d → frame_packet f w h trees references p ≡ got (record { header = head; body = b }) d
    packet_got q = then_body ∙ ap (λ (o : Outcome Body). after o (λ b d. got (record { header = head; body = b }) d)) q

-- ---- an empty packet leaves work memory as it was
module _ (f : PixelFormat) (w h : ℕ) (trees : List Tree) (references : Bool) (p : List ℕ) (none : length p ≡ 0) where
  packet_empty : frame_packet f w h trees references p ≡ choose references (got (repeat_frame f w h) 0) (refused 9 0)
  unfolding frame_packet
  packet_empty = go p none
    where
      go : (p : List ℕ) → length p ≡ 0 → frame_packet f w h trees references p ≡ choose references (got (repeat_frame f w h) 0) (refused 9 0)
      go [] e = refl
      go (b ∷ p) e = absurd (omega arith)

  nothing_held : keeping f w h (repeat_frame f w h).body ≡ (cleared (published f w h)).work
  nothing_held =
      let r : map packed (replicate (blocks_of f w h) uncoded) ≡ replicate (blocks_of f w h) 0 = map_replicate packed (blocks_of f w h) uncoded ∙ ap (replicate (blocks_of f w h)) packed_uncoded in
      let n : blocks_of f w h - 0 ≡ blocks_of f w h = sub-zero (blocks_of f w h) in
      let m : 64 * blocks_of f w h - 0 ≡ 64 * blocks_of f w h = sub-zero (64 * blocks_of f w h) in
      let k : macro_blocks_of w h - 0 ≡ macro_blocks_of w h = sub-zero (macro_blocks_of w h) in
      λ i. record {
        records = r i;
        coded = replicate (n i) 0;
        coefs = replicate (m i) (pos 0);
        lasts = replicate (n i) 0;
        flags = (cleared (published f w h)).work.flags;
        bits = (cleared (published f w h)).work.bits;
        supers = (cleared (published f w h)).work.supers;
        modes = replicate (k i) 0;
        active = (cleared (published f w h)).work.active;
      }

  pub on_empty : (r : FrameRead) (m : Work) → r ≡ as_frame (choose references (got (repeat_frame f w h) 0) (refused 9 0)) → m ≡ (cleared (published f w h)).work
      → (r ≡ as_frame (frame_packet f w h trees references p)) × (m ≡ work_kept f w h (frame_packet f w h trees references p))
  on_empty r m a b = rw packet_empty (a, b ∙ go references)
    where
      go : (t : Bool) → (cleared (published f w h)).work ≡ work_kept f w h (choose t (got (repeat_frame f w h) 0) (refused 9 0))
      go true = sym nothing_held
      go false = refl

-- ---- what a return has to show
module _ (f : PixelFormat) (w h : ℕ) (r : FrameRead) (m : Work) (o : Outcome Frame) where
  pub on_no_frame : {k e : ℕ} → o ≡ refused k e → r ≡ as_frame (refused k e) → m ≡ (cleared (published f w h)).work → (r ≡ as_frame o) × (m ≡ work_kept f w h o)
  on_no_frame g a b = rw g (a, b)

  pub on_frame : {fr : Frame} {e : ℕ} → o ≡ got fr e → r ≡ as_frame (got fr e) → m ≡ keeping f w h fr.body → (r ≡ as_frame o) × (m ≡ work_kept f w h o)
  on_frame g a b = rw g (a, b)

-- once the modes are cleared, too
pub modes_cleared : (f : PixelFormat) (w h : ℕ) (m : Work) (o : Outcome Frame) → m ≡ work_kept f w h o → (modes : List ℕ) → modes ≡ replicate (macro_blocks_of w h) 0
    → work m.records m.coded m.coefs m.lasts m.flags m.bits m.supers modes m.active ≡ work_after f w h o
modes_cleared f w h m (got fr e) k modes z = λ i. work (k i).records (k i).coded (k i).coefs (k i).lasts (k i).flags (k i).bits (k i).supers (z i) (k i).active
modes_cleared f w h m (refused n e) k modes z = λ i. work (k i).records (k i).coded (k i).coefs (k i).lasts (k i).flags (k i).bits (k i).supers (z i) (k i).active

-- ---- clearing
-- zeros are behind the coded blocks
pub zeros_behind : (f : PixelFormat) (w h count : ℕ) (b : Body) (coded l : List ℕ) → count ≡ length b.coded → length coded ≡ blocks_of f w h → coded ≡ padded 0 (blocks_of f w h) b.coded
    → length l ≡ blocks_of f w h → drop (length b.coded) l ≡ replicate (blocks_of f w h - length b.coded) 0 → (count ≤ length l) × (drop count l ≡ replicate (length l - count) 0)
zeros_behind f w h count b coded l e long c n d =
    let m = ap length c ∙ length-append b.coded (replicate (blocks_of f w h - length b.coded) 0) in
    (omega (arith, m), subst (λ (k : ℕ). drop k l ≡ replicate (length l - k) 0) (sym e) (d ∙ ap (λ (k : ℕ). replicate (k - length b.coded) 0) (sym n)))

-- What holds of every frame that a packet gives: all that the maker of its samples asks. Assumes nothing.
use Prim.Native.Nat.{ℕ, ◌≤◌, ◌<◌}
use native.Mathlib.Omega.{arith}
use native.Mathlib.Nat.{not-suc-le-zero}
use mathlib.Core.Path.{◌≡◌, refl, sym, ap, ◌∙◌, subst}
use mathlib.Core.List.{List, [], ◌∷◌}
use mathlib.Core.Bool.{Bool, true, false, true≢false}
use mathlib.Core.Logic.{◌⊎◌, ⊎_elim}
use lib.ListN.{length, get_or, length-replicate, get_or-replicate}
use Rattle.bitstream.specs.Reading.{Outcome, got, refused, pure, bind, pick, choose}
use Rattle.bitstream.proofs.Fields.{no_mix}
use Rattle.bitstream.proofs.Laws.{bind_got}
use Rattle.bitstream.specs.Lists.{empty, Once, AllBelow, none}
use Rattle.geometry.specs.declared.PixelFormat.{PixelFormat}
use Rattle.geometry.specs.Sizes.{blocks_of, macro_blocks_of}
use Rattle.huffman.specs.Tree.{Tree}
use Rattle.block_record.specs.declared.BlockRecord.{BlockRecord}
use Rattle.block_record.specs.declared.Prediction.TheVariants.{None}
use Rattle.block_record.specs.Record.{uncoded}
use Rattle.block_record.proofs.MemoryLaws.{AllInRange, in_range_replicate}
use Rattle.frame_header.specs.declared.Kind.{Kind}
use Rattle.frame_header.specs.declared.Kind.TheVariants.{Intra, Inter, Repeat}
use Rattle.frame_header.specs.Header.{FrameHeader, frame_header}
use Rattle.frame_header.proofs.Laws.{header_fits, header_kind}
use Rattle.coded_flags.specs.Coded.{coded_blocks, coded_luma, coded_records}
use Rattle.coded_flags.proofs.CodedLaws.{coded_once, coded_below, coded_most, coded_is, coded_every, luma_most, records_all, records_length, coded_in_range}
use Rattle.modes.specs.Modes.{macro_modes}
use Rattle.modes.proofs.Laws.{macro_modes_length}
use Rattle.modes.proofs.Below.{modes_below}
use Rattle.vectors.specs.Vectors.{vectors}
use Rattle.vectors.proofs.Laws.{Keeps, vectors_keep}
use Rattle.block_qi.specs.BlockQi.{block_qi}
use Rattle.block_qi.proofs.Laws.{qi_length, qi_in_range, qi_but, qi_most}
use Rattle.tokens.specs.Tokens.{Tokens, read_tokens}
use Rattle.tokens.proofs.Laws.{Given, tokens_given}
use Rattle.tokens.proofs.Fronts.{same_at}
use Rattle.packet_body.specs.Frame.{Body, Frame, is_intra, flags_of, modes_of, vectors_of, body, frame, repeat_frame, frame_packet}
use Rattle.packet_body.proofs.Laws.{made, tokens_then, index_then, vectors_then, flags_of_length, packet_some}

-- the modes of a frame of a kind: an intra frame has none, an inter frame one for each macro block
pub record ModesFit (w h : ℕ) (kind : Kind) (modes : List ℕ) : Type 0 where
  pub none_sent : kind ≡ Intra → modes ≡ []
  pub all_there : kind ≡ Inter → length modes ≡ macro_blocks_of w h
  pub most : length modes ≤ macro_blocks_of w h
  pub below : AllBelow 8 modes

-- the blocks of a frame of w by h macro blocks, of a kind and with so many qi
pub record BodyFits (f : PixelFormat) (w h : ℕ) (kind : Kind) (qis : ℕ) (b : Body) : Type 0 where
  -- a record for each block, in its range, so that packing loses nothing of it
  pub records : length b.records ≡ blocks_of f w h
  pub in_range : AllInRange b.records
  -- the coded blocks are blocks of the frame, each once
  pub once : Once b.coded
  pub below : AllBelow (blocks_of f w h) b.coded
  pub most : length b.coded ≤ blocks_of f w h
  -- they are those whose records say so, and their qi is one of the frame's
  pub are_coded : (k : ℕ) → k < length b.coded → (get_or b.records (get_or b.coded k 0) uncoded).coded ≡ true
  pub every : (n : ℕ) → n < blocks_of f w h → (get_or b.records n uncoded).coded ≡ true → (k : ℕ) × (k < length b.coded) × (get_or b.coded k 0 ≡ n)
  pub index : (k : ℕ) → k < length b.coded → (get_or b.records (get_or b.coded k 0) uncoded).qi_index < qis
  -- those of an intra frame are predicted from no reference
  pub intra : kind ≡ Intra → (n : ℕ) → (get_or b.records n uncoded).prediction ≡ None
  pub modes : ModesFit w h kind b.modes
  -- 64 coefficients and a last visit for each of them, and at most 64 tokens
  pub tokens : Given (length b.coded) b.tokens

pub record Fits (f : PixelFormat) (w h : ℕ) (fr : Frame) : Type 0 where
  pub most : length fr.header.qis ≤ 3
  pub small : AllBelow 64 fr.header.qis
  pub body : BodyFits f w h fr.header.kind (length fr.header.qis) fr.body

module _ (f : PixelFormat) (w h : ℕ) where
  modes_fit : (kind : Kind) (flags p : List ℕ) (i : ℕ) {modes : List ℕ} {e : ℕ} → modes_of f w h kind flags p i ≡ got modes e → ModesFit w h kind modes
  unfolding modes_of
  modes_fit kind flags p i {modes} {e} g = go (is_intra kind) refl g
    where
      go : (t : Bool) → is_intra kind ≡ t → pick t (pure []) (macro_modes flags (macro_blocks_of w h)) p i ≡ got modes e → ModesFit w h kind modes
      go true y g =
          let z : [] ≡ modes = cc in
          record { none_sent = λ k. sym z; all_there = λ k. absurd (true≢false (sym y ∙ ap is_intra k)); most = omega (arith, ap length z); below = subst (AllBelow 8) z none }
      go false y g =
          let l = macro_modes_length flags (macro_blocks_of w h) p i g in
          record { none_sent = λ k. absurd (true≢false (sym (ap is_intra k) ∙ y)); all_there = λ k. l; most = omega (arith, l); below = modes_below flags (macro_blocks_of w h) p i g }

  -- vectors change nothing else of the records
  pub vectors_of_keep : (kind : Kind) (modes : List ℕ) (rs : List BlockRecord) (p : List ℕ) (i : ℕ) {ss : List BlockRecord} {e : ℕ} → AllInRange rs → vectors_of f w h kind modes rs p i ≡ got ss e → Keeps rs ss
  unfolding vectors_of
  vectors_of_keep kind modes rs p i {ss} {e} a g = go (is_intra kind) g
    where
      go : (t : Bool) → pick t (pure rs) (vectors f w h modes rs) p i ≡ got ss e → Keeps rs ss
      go true g = let z : rs ≡ ss = cc in subst (Keeps rs) z (record { long = refl; in_range = a; but = λ m. refl })
      go false g = vectors_keep f w h modes rs p i a g

  vectors_intra : (kind : Kind) (modes : List ℕ) (rs : List BlockRecord) (p : List ℕ) (i : ℕ) {ss : List BlockRecord} {e : ℕ} → vectors_of f w h kind modes rs p i ≡ got ss e → kind ≡ Intra → rs ≡ ss
  unfolding vectors_of
  vectors_intra kind modes rs p i {ss} {e} g y = go (is_intra kind) (ap is_intra y) g
    where
      go : (t : Bool) → t ≡ true → pick t (pure rs) (vectors f w h modes rs) p i ≡ got ss e → rs ≡ ss
      go true y g = cc
      go false y g = absurd (true≢false (sym y))

  module _ (trees : List Tree) (kind : Kind) (qis : ℕ) (some : 1 ≤ qis) (few : qis ≤ 3) (p : List ℕ) where
    module _ (flags : List ℕ) (full : length flags ≡ blocks_of f w h) (modes : List ℕ) (sent : ModesFit w h kind modes) (predicted records : List BlockRecord) (k : Keeps (coded_records f w h flags) predicted) (none : kind ≡ Intra → coded_records f w h flags ≡ predicted)
        (i e : ℕ) (g : block_qi qis (coded_blocks f w h flags) predicted p i ≡ got records e) (t : Tokens) (v : Given (length (coded_blocks f w h flags)) t) where
      flag_kept : (n : ℕ) → (get_or records n uncoded).coded ≡ (get_or (coded_records f w h flags) n uncoded).coded
      flag_kept n =
          ap (λ (r : BlockRecord). r.coded) (qi_but qis few (coded_blocks f w h flags) predicted p i records e g n)
          ∙ ap (λ (r : BlockRecord). r.coded) (k.but n)

      index_zero : (n : ℕ) → (get_or predicted n uncoded).qi_index ≤ 0
      index_zero n =
          let z = ap (λ (r : BlockRecord). r.qi_index) (k.but n) in
          let y = records_all f w h flags (λ r. r.qi_index ≡ 0) refl refl n in
          omega arith

      made_fits : BodyFits f w h kind qis (made f w h flags modes records t)
      made_fits = record {
        records = qi_length qis few (coded_blocks f w h flags) predicted p i records e g ∙ k.long ∙ records_length f w h flags;
        in_range = qi_in_range qis few (coded_blocks f w h flags) predicted p i records e g k.in_range;
        once = coded_once f w h flags;
        below = coded_below f w h flags;
        most = coded_most f w h flags full;
        are_coded = λ j l. flag_kept _ ∙ ap (λ (r : BlockRecord). r.coded) (coded_is f w h flags j l);
        every = λ n l c. coded_every f w h flags n l (sym (flag_kept n) ∙ c);
        index = λ j l. omega (arith, qi_most (coded_blocks f w h flags) qis predicted p i records e index_zero g (get_or (coded_blocks f w h flags) j 0));
        intra = λ y n.
            ap (λ (r : BlockRecord). r.prediction) (qi_but qis few (coded_blocks f w h flags) predicted p i records e g n)
            ∙ ap (λ (l : List BlockRecord). (get_or l n uncoded).prediction) (sym (none y))
            ∙ records_all f w h flags (λ r. r.prediction ≡ None) refl refl n;
        modes = sent;
        tokens = v;
      }

    pub body_fits : (i : ℕ) {b : Body} {e : ℕ} → body f w h trees kind qis p i ≡ got b e → BodyFits f w h kind qis b
    unfolding body
    body_fits i {b} {e} g =
        let u = bind_got (flags_of f w h kind) (λ flags. bind (modes_of f w h kind flags) (vectors_then f w h trees kind qis flags)) p i g in
        let flags = u.0 in
        let full = flags_of_length f w h kind p i u.2 in
        let m = bind_got (modes_of f w h kind flags) (vectors_then f w h trees kind qis flags) p u.1 u.3 in
        let modes = m.0 in
        let v = bind_got (vectors_of f w h kind modes (coded_records f w h flags)) (index_then f w h trees qis flags modes) p m.1 m.3 in
        let q = bind_got (block_qi qis (coded_blocks f w h flags) v.0) (tokens_then f w h trees flags modes) p v.1 v.3 in
        let t = bind_got (read_tokens trees (coded_luma f w h flags) (length (coded_blocks f w h flags))) (λ t. pure (made f w h flags modes q.0 t)) p q.1 q.3 in
        let z : made f w h flags modes q.0 t.0 ≡ b = cc in
        subst (BodyFits f w h kind qis) z
        (made_fits flags full modes (modes_fit kind flags p u.1 m.2) v.0 q.0 (vectors_of_keep kind modes (coded_records f w h flags) p m.1 (coded_in_range f w h flags) v.2)
        (vectors_intra kind modes (coded_records f w h flags) p m.1 v.2) v.1 q.1 q.2 t.0 (tokens_given trees (coded_luma f w h flags) (length (coded_blocks f w h flags)) p q.1 (luma_most f w h flags full) t.2))

  -- the frame of an empty packet
  pub repeat_frame_fits : Fits f w h (repeat_frame f w h)
  repeat_frame_fits = record {
    most = omega arith;
    small = none;
    body = record {
      records = length-replicate (blocks_of f w h) uncoded;
      in_range = in_range_replicate (blocks_of f w h) uncoded (record { qi_index = omega arith; prediction = tt });
      once = empty;
      below = none;
      most = omega arith;
      are_coded = λ k l. absurd (not-suc-le-zero l);
      every = λ n l c. absurd (true≢false (sym c ∙ ap (λ (r : BlockRecord). r.coded) (get_or-replicate (blocks_of f w h) n uncoded uncoded l)));
      index = λ k l. absurd (not-suc-le-zero l);
      intra = λ y n. ap (λ (r : BlockRecord). r.prediction) (same_at (blocks_of f w h) n uncoded);
      modes = record { none_sent = λ k. refl; all_there = λ k. no_inter k; most = omega arith; below = none };
      tokens = record { tokens = omega arith; lasts = refl; coefs = refl; visits = λ b. omega arith; bounded = λ j. omega arith };
    };
  }
    where
      no_inter : {X : Type 0} → Repeat ≡ Inter → X
      no_inter z = let y : ◌≡◌ {A = ℕ} 0 1 = cc in absurd (omega arith)

  module _ (trees : List Tree) (references : Bool) where
    -- what a frame went through: its header, and its blocks behind it
    pub frame_through : (p : List ℕ) (i : ℕ) {fr : Frame} {e : ℕ} → frame f w h trees references p i ≡ got fr e
        → (d : ℕ) × (frame_header references p i ≡ got fr.header d) × (body f w h trees fr.header.kind (length fr.header.qis) p d ≡ got fr.body e)
    unfolding frame
    frame_through p i {fr} {e} g =
        let u = bind_got (frame_header references) (λ head. bind (body f w h trees head.kind (length head.qis)) (λ b. pure (both head b))) p i g in
        let v = bind_got (body f w h trees u.0.kind (length u.0.qis)) (λ b. pure (both u.0 b)) p u.1 u.3 in
        go u.0 v.0 u.1 v.1 u.2 v.2 v.3
      where
        both : FrameHeader → Body → Frame
        both head b = record { header = head; body = b }

        go : (head : FrameHeader) (b : Body) (d c : ℕ) → frame_header references p i ≡ got head d → body f w h trees head.kind (length head.qis) p d ≡ got b c → ◌≡◌ {A = Outcome Frame} (got (both head b) c) (got fr e)
            → (d : ℕ) × (frame_header references p i ≡ got fr.header d) × (body f w h trees fr.header.kind (length fr.header.qis) p d ≡ got fr.body e)
        go head b d c hh hb z =
            let x : both head b ≡ fr = cc in
            let y : c ≡ e = cc in
            subst (λ (x : Frame). (d : ℕ) × (frame_header references p i ≡ got x.header d) × (body f w h trees x.header.kind (length x.header.qis) p d ≡ got x.body e)) x
            (d, hh, hb ∙ ap (got b) y)

    frame_fits : (p : List ℕ) (i : ℕ) {fr : Frame} {e : ℕ} → frame f w h trees references p i ≡ got fr e → Fits f w h fr
    frame_fits p i {fr} {e} g =
        let t = frame_through p i g in
        let q = header_fits references p i fr.header t.0 t.1 in
        record { most = q.most; small = q.small; body = body_fits trees fr.header.kind (length fr.header.qis) q.some q.most p t.0 t.2 }

    -- "Empty: repeat previous"
    pub packet_repeat : {fr : Frame} {e : ℕ} → frame_packet f w h trees references [] ≡ got fr e → (fr ≡ repeat_frame f w h) × (e ≡ 0) × (references ≡ true)
    unfolding frame_packet
    packet_repeat {fr} {e} g = go references g
      where
        go : (t : Bool) → choose t (got (repeat_frame f w h) 0) (refused 9 0) ≡ got fr e → (fr ≡ repeat_frame f w h) × (e ≡ 0) × (t ≡ true)
        go true g = (cc, cc, refl)
        go false g = no_mix (sym g)

    -- any other packet gives an intra frame, or where there are references an inter frame
    pub packet_kind : (p : List ℕ) {fr : Frame} {e : ℕ} → 1 ≤ length p → frame_packet f w h trees references p ≡ got fr e → (fr.header.kind ≡ Intra) ⊎ ((fr.header.kind ≡ Inter) × (references ≡ true))
    packet_kind p {fr} l g = let t = frame_through p 0 (sym (packet_some f w h trees references p l) ∙ g) in header_kind references p 0 fr.header t.0 t.1

    -- so a repeat is what an empty packet gives, and no other
    pub repeat_empty : (p : List ℕ) {fr : Frame} {e : ℕ} → frame_packet f w h trees references p ≡ got fr e → fr.header.kind ≡ Repeat → p ≡ []
    repeat_empty [] g y = refl
    repeat_empty (b ∷ p) g y = ⊎_elim (λ k. no_repeat true (sym k ∙ y)) (λ k. no_repeat false (sym k.0 ∙ y)) (packet_kind (b ∷ p) (omega arith) g)
      where
        no_repeat : {X : Type 0} (t : Bool) → choose t Intra Inter ≡ Repeat → X
        no_repeat true z = let z : ◌≡◌ {A = ℕ} 0 1 = cc in absurd (omega arith)
        no_repeat false z = let z : ◌≡◌ {A = ℕ} 0 1 = cc in absurd (omega arith)

    pub packet_fits : (p : List ℕ) {fr : Frame} {e : ℕ} → frame_packet f w h trees references p ≡ got fr e → Fits f w h fr
    packet_fits [] g = subst (Fits f w h) (sym (packet_repeat g).0) repeat_frame_fits
    packet_fits (b ∷ p) g = frame_fits (b ∷ p) 0 (sym (packet_some f w h trees references (b ∷ p) (omega arith)) ∙ g)

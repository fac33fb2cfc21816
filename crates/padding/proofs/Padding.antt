-- Bytes behind a packet. Assumes nothing.
use Prim.Native.Nat.{ℕ, ◌≤◌}
use native.Mathlib.Omega.{arith}
use mathlib.Core.Path.{◌≡◌, refl, sym, ap, ◌∙◌, subst}
use mathlib.Core.List.{List, [], ◌∷◌, ◌++◌, map}
use mathlib.Core.Bool.{Bool, true, false}
use lib.Dec.{eqb}
use lib.ListN.{length, length-append}
use Rattle.bitstream.specs.Bits.{bits, bit_at, number}
use Rattle.bitstream.specs.Reading.{Outcome, got, refused, Parse, after, choose, field, judged}
use Rattle.bitstream.proofs.Laws.{Lawful, got_more, refused_more, agree_more}
use Rattle.geometry.specs.declared.PixelFormat.TheVariants.{Chroma420}
use Rattle.headers.specs.declared.Session.{Session}
use Rattle.headers.specs.Fits.{session_fits}
use Rattle.headers.specs.Judgement.{spelled, theora, common_header}
use Rattle.headers.specs.Identification.{rates, coding, identification}
use Rattle.header_fields.specs.Frame.{version, frame_size}
use Rattle.headers.specs.Sizes.{format}
use Rattle.headers.proofs.Groups.{identification_lawful}
use Rattle.table_memory.specs.Kept.{kept}
use Rattle.table_memory.proofs.KeptLaws.{kept_length, kept_bytes, kept_front, kept_back, kept_unique}
use Rattle.setup.specs.Header.{Setup, setup_header}
use Rattle.setup.specs.Table.{table_bytes, setup_outcome, left_by, table_after, held_setup}
use Rattle.setup.proofs.Laws.{setup_lawful}
use Rattle.frame_header.specs.Header.{frame_type, more_qis, qi_list, reserved, kind_of, frame_header}
use Rattle.frame_packet.specs.Frame.{Frame, frame, frame_packet, repeat_frame}
use Rattle.frame_packet.proofs.Laws.{frame_lawful, packet_some}
use Rattle.reading.specs.Answer.{Asked, counted, read_by, read, answer_for}
use Rattle.asked_frame.specs.Answer.{State, Done, Way, done, new_by}
use Rattle.calls.specs.Call.{Call, lengths_hold, outcome_of, memory_after, by_rules}
use Rattle.calls.specs.Demand.{turn, turns}
use Rattle.padding.specs.Padding.{Settled, with_more, SettledCall, padded_by, AllSettled, Left, left_in, ListsPadded, PaddingHolds}

module _ (more : List ℕ) where
  -- ---- any lawful parser
  settled_more : {A : Type 0} {m : Parse A} → Lawful m → (p : List ℕ) → Settled (m p 0) → m (p ++ more) 0 ≡ m p 0
  settled_more {A} {m} l p h = go (m p 0) refl h
    where
      go : (o : Outcome A) → m p 0 ≡ o → Settled o → m (p ++ more) 0 ≡ m p 0
      go (got a e) s h = got_more l p more 0 a e (omega arith) s ∙ sym s
      go (refused k e) s h = refused_more l p more 0 k e (omega arith) s h ∙ sym s

  -- ---- what the setup call keeps
  kept_more : (p : List ℕ) (e n : ℕ) → e ≤ bits p → kept (p ++ more) e n ≡ kept p e n
  kept_more p e n h =
      sym (kept_unique (p ++ more) (kept p e n) e n (kept_length p e n) (kept_bytes p e n)
      (λ i l r. kept_front p e n i l r ∙ (agree_more p more).same i (omega arith)) (kept_back p e n))

  left_more : (p : List ℕ) (o : Outcome Setup) → setup_header p 0 ≡ o → left_by (p ++ more) o ≡ left_by p o
  left_more p (got s e) h = kept_more p e table_bytes (setup_lawful.moves p 0 s e (omega arith) h).1
  left_more p (refused k e) h = refl

  setup_more : (p table : List ℕ) → Settled (setup_outcome (length table) p) → (setup_outcome (length table) (p ++ more) ≡ setup_outcome (length table) p) × (table_after table (p ++ more) ≡ table_after table p)
  unfolding setup_outcome table_after
  setup_more p table h = go (eqb (length table) table_bytes) h
    where
      go : (b : Bool) → Settled (choose b (setup_header p 0) (refused 1 0))
          → (choose b (setup_header (p ++ more) 0) (refused 1 0) ≡ choose b (setup_header p 0) (refused 1 0)) × (choose b (left_by (p ++ more) (setup_header (p ++ more) 0)) table ≡ choose b (left_by p (setup_header p 0)) table)
      go true h = let s = settled_more setup_lawful p h in (s, ap (left_by (p ++ more)) s ∙ left_more p (setup_header p 0) refl)
      go false h = (refl, refl)

  -- ---- a frame packet
  module _ (s : Session) (p : List ℕ) (some : 1 ≤ length p) where
    packet_more : (setup : Setup) → Settled (read_by s setup p) → read_by s setup (p ++ more) ≡ read_by s setup p
    packet_more setup h =
        ap (λ (o : Outcome Frame). after o (counted s setup))
        (packet_some (format s) s.fields.fmbw s.fields.fmbh setup.trees s.references (p ++ more) (omega (arith, length-append p more)) ∙ same ∙ sym whole)
      where
        whole : frame_packet (format s) s.fields.fmbw s.fields.fmbh setup.trees s.references p ≡ frame (format s) s.fields.fmbw s.fields.fmbh setup.trees s.references p 0
        whole = packet_some (format s) s.fields.fmbw s.fields.fmbh setup.trees s.references p some

        inside : (o : Outcome Frame) → Settled (after o (counted s setup)) → Settled o
        inside (got fr e) h = tt
        inside (refused k e) h = h

        same : frame (format s) s.fields.fmbw s.fields.fmbh setup.trees s.references (p ++ more) 0 ≡ frame (format s) s.fields.fmbw s.fields.fmbh setup.trees s.references p 0
        same =
            settled_more (frame_lawful (format s) s.fields.fmbw s.fields.fmbh setup.trees s.references) p
            (subst Settled whole (inside (frame_packet (format s) s.fields.fmbw s.fields.fmbh setup.trees s.references p) h))

    read_more : (table : List ℕ) → Settled (read s table p) → read s table (p ++ more) ≡ read s table p
    unfolding read
    read_more table h = go (held_setup table) h
      where
        go : (o : Outcome Setup) → Settled (after o (λ setup _. read_by s setup p)) → after o (λ setup _. read_by s setup (p ++ more)) ≡ after o (λ setup _. read_by s setup p)
        go (got setup e) h = packet_more setup h
        go (refused k e) h = refl

  outcome_more : (st : State) (c : Call) → SettledCall st c → outcome_of st (with_more more c) ≡ outcome_of st c
  unfolding outcome_of
  outcome_more st c (some, h) = go (session_fits st.session) (lengths_hold st c) h
    where
      go : (a b : Bool) → Settled (choose a (choose b (read st.session c.table c.packet) (refused 1 0)) (refused 8 0))
          → choose a (choose b (read st.session c.table (c.packet ++ more)) (refused 1 0)) (refused 8 0) ≡ choose a (choose b (read st.session c.table c.packet) (refused 1 0)) (refused 8 0)
      go true true h = read_more st.session c.packet some c.table h
      go true false h = refl
      go false b h = refl

  frame_more : (way : Way) (st : State) (c : Call) → SettledCall st c → by_rules way st (with_more more c) ≡ by_rules way st c
  unfolding by_rules memory_after
  frame_more way st c h =
      ap (λ (o : Outcome Asked). done (answer_for st.session o) (new_by way st c.new o) (memory_after st c)) (outcome_more st c h)

-- ---- lists of calls
lists_padded : ListsPadded
unfolding turns padded_by AllSettled
lists_padded way st cs [] h = refl
lists_padded way st [] (more ∷ rest) h = refl
lists_padded way st (c ∷ cs) (more ∷ rest) (settled, h) =
    let d = by_rules way st c in
    let e = frame_more more way st c settled in
    let t = turn st c d in
    ap (λ (x : Done). record { done = x; after = (turn st c x).after } ∷ map left_in (turns (by_rules way) (turn st c x).after (padded_by rest cs))) e
    ∙ ap (λ (l : List Left). left_in t ∷ l) (lists_padded way t.after cs rest h)

pub padding_holds : PaddingHolds
padding_holds = (
  λ more. record {
    of_identification = settled_more more identification_lawful;
    of_setup = setup_more more;
    of_frame = frame_more more;
    of_runs = λ st c d padded h p q. q ∙ frame_more more _ st c h ∙ sym p;
  },
  lists_padded,
)

-- ---- why the exceptions are needed
-- "nor for an empty packet, because it means a repeat": with a byte of zeros behind it an intra frame begins, which the packet's end cuts
empty_repeats : frame_packet Chroma420 1 1 [] true [] ≡ got (repeat_frame Chroma420 1 1) 0
unfolding frame_packet
empty_repeats = refl

empty_padded : frame_packet Chroma420 1 1 [] true ([] ++ 0x00 ∷ []) ≡ refused 4 8
unfolding frame_packet frame frame_header frame_type more_qis qi_list reserved kind_of judged field number bit_at
empty_padded = refl

-- "Nothing is promised for refusal 4": an identification header with KFGSHIFT 0 that is cut by its last byte, and the same with a byte of zeros behind it, which is accepted
cut_header : List ℕ
cut_header =
    0x80 ∷ (theora ++ (3 ∷ 2 ∷ 1 ∷ 0 ∷ 2 ∷ 0 ∷ 1 ∷ 0 ∷ 0 ∷ 30 ∷ 0 ∷ 0 ∷ 16 ∷ 2 ∷ 0
    ∷ 0 ∷ 0 ∷ 0 ∷ 30 ∷ 0 ∷ 0 ∷ 0 ∷ 1 ∷ 0 ∷ 0 ∷ 0 ∷ 0 ∷ 0 ∷ 0 ∷ 0 ∷ 0 ∷ 0 ∷ 0 ∷ 0xFC ∷ []))

cut_refused : identification cut_header 0 ≡ refused 4 326
unfolding cut_header identification common_header spelled version frame_size rates coding judged field number bit_at
cut_refused = refl

accepted : {A : Type 0} → Outcome A → Bool
accepted (got a e) = true
accepted (refused k e) = false

cut_padded : accepted (identification (cut_header ++ 0x00 ∷ []) 0) ≡ true
unfolding cut_header accepted identification common_header spelled version frame_size rates coding judged field number bit_at
cut_padded = refl

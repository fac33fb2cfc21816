-- A packet that was read and lies in work memory, modes and all: what is counted of it, what is cleared, and what is answered. Assumes nothing.
use Prim.Native.Nat.{ℕ, ◌-◌, ◌*◌, ◌≤◌}
use native.Mathlib.Omega.{arith}
use mathlib.Core.Path.{◌≡◌, refl, sym, ap, ◌∙◌, subst}
use mathlib.Core.Bool.{Bool, true, false}
use mathlib.Core.List.{List, ◌++◌, append-nil}
use lib.IntN.{ℤ, pos}
use lib.ListN.{length, take, replicate, length-map}
use Rattle.bitstream.specs.Reading.{Outcome, got, refused, after, choose}
use Rattle.bitstream.specs.Numbers.{uncounted}
use Rattle.bitstream.specs.Lists.{Once, AllBelow}
use Rattle.bitstream.proofs.ListLaws.{all_append, all_replicate}
use Rattle.geometry.specs.declared.PixelFormat.{PixelFormat}
use Rattle.geometry.specs.Sizes.{blocks_of, macro_blocks_of}
use Rattle.headers.specs.declared.Session.{Session}
use Rattle.headers.specs.Sizes.{format}
use Rattle.huffman.specs.Tree.{Tree}
use Rattle.setup.specs.Header.{Setup}
use Rattle.block_record.specs.Packed.{packed}
use Rattle.frame_header.specs.declared.Header.{Header}
use Rattle.frame_header.specs.declared.Kind.TheVariants.{Inter}
use Rattle.frame_header.specs.Answer.{as_header}
use Rattle.frame_packet.specs.Frame.{Frame, frame_packet}
use Rattle.packet_body.specs.Work.{padded}
use Rattle.frame_packet.specs.Work.{keeping, work_kept, as_frame}
use Rattle.packet_body.specs.declared.Read.TheVariants.{Whole, Refused}
use Rattle.frame_packet.specs.declared.FrameRead.{FrameRead}
use Rattle.frame_packet.proofs.Fits.{Fits, packet_fits}
use Rattle.frame_packet.proofs.Held.{read_refused, read_whole, Front, padded_front}
use Rattle.work_memory.specs.Memory.{Work, work}
use Rattle.work_memory.specs.Lengths.{published, cleared}
use Rattle.work_memory.proofs.Clearing.{cleared_to}
use Rattle.reading.specs.declared.FrameAnswer.{FrameAnswer}
use Rattle.reading.specs.declared.Verdict.TheVariants.{Accepted}
use Rattle.reading.specs.Answer.{stays_counted, counted, read_by, session_after, answer_for}
use Rattle.counting.specs.declared.Counts.{Counts}
use Rattle.counting.specs.Counts.{no_counts, frame_counts}
use Rattle.counting.proofs.Laws.{same_counts}
use Rattle.tally.specs.declared.Counted.{Counted}
use Rattle.tally.specs.Counted.{counted_by, accepted}

-- the answer and work memory that the reader leaves
module _ (f : PixelFormat) (w h : ℕ) (trees : List Tree) (references : Bool) (packet : List ℕ) {r : FrameRead} {m : Work}
    (er : r ≡ as_frame (frame_packet f w h trees references packet)) (em : m ≡ work_kept f w h (frame_packet f w h trees references packet)) where
  abbrev o : Outcome Frame
  o = frame_packet f w h trees references packet

  -- after a refusal it is all zero
  pub none_kept : {k e : ℕ} → r.read ≡ Refused k e → m ≡ (cleared (published f w h)).work
  none_kept g = em ∙ ap (work_kept f w h) (read_refused o er g)

  module _ {count tokens e : ℕ} (g : r.read ≡ Whole count tokens e) where
    abbrev there : (fr : Frame) × (o ≡ got fr e) × (count ≡ length fr.body.coded) × (r.header ≡ as_header fr.header) × (tokens ≡ fr.body.tokens.tokens)
    there = read_whole o er g

    abbrev fr : Frame
    fr = there.0

    fits : Fits f w h fr
    fits = packet_fits f w h trees references packet there.1

    held : m ≡ keeping f w h fr.body
    held = em ∙ ap (work_kept f w h) there.1

    few : count ≤ blocks_of f w h
    few = omega (arith, there.2, fits.body.most)

    -- the coded blocks, their coefficients and their last visits stand in front, and zeros behind them
    pub coded_front : Front 0 (blocks_of f w h) count fr.body.coded m.coded
    coded_front = subst (λ (m : Work). Front 0 (blocks_of f w h) count fr.body.coded m.coded) (sym held) (padded_front 0 (blocks_of f w h) count fr.body.coded (sym there.2) few)

    pub coefs_front : Front (pos 0) (64 * blocks_of f w h) (64 * count) fr.body.tokens.coefs m.coefs
    coefs_front =
        subst (λ (m : Work). Front (pos 0) (64 * blocks_of f w h) (64 * count) fr.body.tokens.coefs m.coefs) (sym held)
        (padded_front (pos 0) (64 * blocks_of f w h) (64 * count) fr.body.tokens.coefs (fits.body.tokens.coefs ∙ ap (λ (n : ℕ). 64 * n) (sym there.2)) (omega (arith, few)))

    pub lasts_front : Front 0 (blocks_of f w h) count fr.body.tokens.lasts m.lasts
    lasts_front =
        subst (λ (m : Work). Front 0 (blocks_of f w h) count fr.body.tokens.lasts m.lasts) (sym held)
        (padded_front 0 (blocks_of f w h) count fr.body.tokens.lasts (fits.body.tokens.lasts ∙ sym there.2) few)

    -- the modes, and zeros behind them
    modes_front : Front 0 (macro_blocks_of w h) (length fr.body.modes) fr.body.modes m.modes
    modes_front =
        subst (λ (m : Work). Front 0 (macro_blocks_of w h) (length fr.body.modes) fr.body.modes m.modes) (sym held)
        (padded_front 0 (macro_blocks_of w h) (length fr.body.modes) fr.body.modes refl fits.body.modes.most)

    records_long : length m.records ≡ blocks_of f w h
    records_long = ap (λ (m : Work). length m.records) held ∙ length-map fr.body.records packed ∙ fits.body.records

    -- what the count asks of them
    pub coded_once : Once (take count m.coded)
    coded_once = subst Once (sym coded_front.front) fits.body.once

    pub coded_below : AllBelow (blocks_of f w h) (take count m.coded)
    coded_below = subst (AllBelow (blocks_of f w h)) (sym coded_front.front) fits.body.below

    pub modes_small : AllBelow 8 m.modes
    modes_small = subst (λ (m : Work). AllBelow 8 m.modes) (sym held) (all_append fits.body.modes.below (all_replicate (macro_blocks_of w h - length fr.body.modes) 0 (omega arith)))

    -- an inter frame has a mode for each macro block
    modes_are : r.header.kind ≡ Inter → m.modes ≡ fr.body.modes
    modes_are k =
        let n = fits.body.modes.all_there (sym (ap (λ (x : Header). x.kind) there.3) ∙ k) in
        let z : macro_blocks_of w h - length fr.body.modes ≡ 0 = omega arith in
        ap (λ (m : Work). m.modes) held ∙ ap (λ (n : ℕ). fr.body.modes ++ replicate n 0) z ∙ append-nil fr.body.modes

    -- what was counted
    counts_are : (c : Counts) → c ≡ frame_counts f w h r.header.kind (take count m.coded) m.modes → c ≡ frame_counts f w h fr.header.kind fr.body.coded fr.body.modes
    counts_are c e =
        e ∙ same_counts f w h r.header.kind coded_front.front modes_are
        ∙ ap (λ (x : Header). frame_counts f w h x.kind fr.body.coded fr.body.modes) there.3

    -- once what was kept is cleared
    pub all_cleared : {records coded : List ℕ} {coefs : List ℤ} {lasts modes : List ℕ} → (records ≡ replicate (length m.records) 0) × (coded ≡ replicate (length m.coded) 0)
        × (coefs ≡ replicate (length m.coefs) (pos 0)) × (lasts ≡ replicate (length m.lasts) 0) × (modes ≡ replicate (length m.modes) 0)
        → work records coded coefs lasts m.flags m.bits m.supers modes m.active ≡ (cleared (published f w h)).work
    all_cleared z =
        let e0 = cleared_to 0 z.0 records_long in
        let e1 = cleared_to 0 z.1 coded_front.long in
        let e2 = cleared_to (pos 0) z.2 coefs_front.long in
        let e3 = cleared_to 0 z.3 lasts_front.long in
        let e4 = cleared_to 0 z.4 modes_front.long in
        λ i. work (e0 i) (e1 i) (e2 i) (e3 i) (held i).flags (held i).bits (held i).supers (e4 i) (held i).active

-- ---- the answer by a session and a setup whose trees were read by
module _ (s : Session) (setup : Setup) (trees : List Tree) (et : trees ≡ setup.trees) (f : PixelFormat) (ef : f ≡ format s) (packet : List ℕ) {r : FrameRead} {m : Work}
    (er : r ≡ as_frame (frame_packet f s.fields.fmbw s.fields.fmbh trees s.references packet)) (em : m ≡ work_kept f s.fields.fmbw s.fields.fmbh (frame_packet f s.fields.fmbw s.fields.fmbh trees s.references packet)) where
  read_by_law : read_by s setup packet ≡ after (frame_packet f s.fields.fmbw s.fields.fmbh trees s.references packet) (counted s setup)
  read_by_law = λ i. after (frame_packet (sym ef i) s.fields.fmbw s.fields.fmbh (sym et i) s.references packet) (counted s setup)

  pub on_refused : {k e : ℕ} → r.read ≡ Refused k e → (c : Counted) → c ≡ counted_by s (refused k e) → c ≡ counted_by s (read_by s setup packet)
  on_refused g c e =
      e ∙ ap (counted_by s) (sym (read_by_law ∙ ap (λ (o : Outcome Frame). after o (counted s setup)) (read_refused (frame_packet f s.fields.fmbw s.fields.fmbh trees s.references packet) er g)))

  pub on_whole : {count tokens e : ℕ} → r.read ≡ Whole count tokens e → (n : Counts) → n ≡ frame_counts f s.fields.fmbw s.fields.fmbh r.header.kind (take count m.coded) m.modes
      → (c : Counted) → c ≡ choose (stays_counted r.header.kind s) (accepted s r.header tokens n) (counted_by s (refused uncounted 0)) → c ≡ counted_by s (read_by s setup packet)
  on_whole {count} {tokens} {e} g n en c ec =
      let w = s.fields.fmbw in
      let h = s.fields.fmbh in
      let t = read_whole (frame_packet f w h trees s.references packet) er g in
      let fr = t.0 in
      let eh = t.3 in
      let z = counts_are f w h trees s.references packet er em g n en ∙ ap (λ (f : PixelFormat). frame_counts f w h fr.header.kind fr.body.coded fr.body.modes) ef in
      ec
      ∙ (λ i. choose (stays_counted (eh i).kind s) (accepted s (eh i) (t.4 i) (z i)) (counted_by s (refused uncounted 0)))
      ∙ go (stays_counted fr.header.kind s) fr
      ∙ ap (counted_by s) (sym (read_by_law ∙ ap (λ (o : Outcome Frame). after o (counted s setup)) t.1))
    where
      go : (b : Bool) (fr : Frame)
          → choose b (accepted s (as_header fr.header) fr.body.tokens.tokens (frame_counts (format s) s.fields.fmbw s.fields.fmbh fr.header.kind fr.body.coded fr.body.modes)) (counted_by s (refused uncounted 0))
          ≡ counted_by s (choose b (got (record { setup = setup; frame = fr }) e) (refused uncounted 0))
      go true fr = refl
      go false fr = refl

-- ---- the answer's two ways
module _ (s : Session) (b : Bool) where
  pub on_past : b ≡ false → (a : FrameAnswer) (n : Counts) (c : Counted) → a ≡ answer_for s (refused uncounted 0) → n ≡ no_counts → ◌≡◌ {A = Counted} (record { answer = a; counts = n }) (choose b c (counted_by s (refused uncounted 0)))
  on_past e a n c ea en = rw e (λ i. record { answer = ea i; counts = en i })

  pub on_within : b ≡ true → (header : Header) (tokens : ℕ) (n : Counts) (next : Session) (c : Counted) → next ≡ session_after header.kind s
      → ◌≡◌ {A = Counted} (record { answer = record { verdict = Accepted tokens; header = header; session = next }; counts = n }) (choose b (accepted s header tokens n) c)
  on_within e header tokens n next c en = rw e (λ i. record { answer = record { verdict = Accepted tokens; header = header; session = en i }; counts = n })

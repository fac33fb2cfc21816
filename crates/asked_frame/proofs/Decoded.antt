-- A packet that was read and lies in work memory: what its frame is made from, and what the call leaves. Assumes nothing.
use Prim.Native.Nat.{ℕ, zero, suc, ◌-◌, ◌*◌, ◌≤◌, ◌<◌}
use native.Mathlib.Omega.{arith}
use mathlib.Core.Path.{◌≡◌, refl, sym, ap, ◌∙◌, subst, transport, fun_ext}
use mathlib.Core.Bool.{true, false}
use mathlib.Core.List.{List, [], ◌∷◌, ◌++◌}
use lib.IntN.{ℤ, pos}
use lib.ListN.{length, get_or, drop, replicate, length-append, length-replicate, length-map}
use lib.Seq.{take-append_seam, drop-append_seam}
use Rattle.bitstream.specs.Reading.{Outcome, got, after}
use Rattle.bitstream.proofs.ListLaws.{once_at, all_at, all_replicate, all_append}
use Rattle.geometry.specs.declared.PixelFormat.{PixelFormat}
use Rattle.geometry.specs.Sizes.{blocks_of}
use Rattle.headers.specs.declared.Session.{Session}
use Rattle.matrices.specs.Matrix.{matrix_of}
use Rattle.matrices.specs.All.{AllQi}
use Rattle.setup.specs.Header.{Setup}
use Rattle.setup.specs.Loaded.{limit_of}
use Rattle.tokens.specs.Answer.{trees_of}
use Rattle.tokens.proofs.Fronts.{same_at}
use Rattle.block_record.specs.Record.{uncoded}
use Rattle.block_record.specs.Packed.{packed}
use Rattle.block_record.proofs.MemoryLaws.{in_range_at, records_packed}
use Rattle.frame_header.specs.declared.Header.{Header}
use Rattle.frame_header.specs.Answer.{as_header, three}
use Rattle.frame_packet.specs.Frame.{Body, Frame, frame_packet}
use Rattle.work_memory.specs.Memory.{Work, memory}
use Rattle.work_memory.specs.Lengths.{blocks, lengths_of, cleared}
use Rattle.packet_body.specs.Work.{padded}
use Rattle.frame_packet.specs.Work.{holding, work_after, as_frame}
use Rattle.packet_body.specs.declared.Read.TheVariants.{Whole, Refused}
use Rattle.frame_packet.specs.declared.FrameRead.{FrameRead}
use Rattle.frame_packet.proofs.Fits.{Fits, packet_fits}
use Rattle.frame_packet.proofs.Held.{read_refused, read_whole}
use Rattle.ways.specs.Loops.{◌∈◌}
use Rattle.ways.specs.Ways.{Picture, first_way}
use Rattle.reconstruct.specs.Picture.{Blocks, Matrices, picture_of}
use Rattle.reconstruct.specs.Lent.{blocks_in, CodedBlocks}
use Rattle.reconstruct.proofs.Facts.{in_at, coded_by}
use Rattle.reconstruct.proofs.Same.{Alike, lists_same}
use Rattle.reading.specs.declared.FrameAnswer.{FrameAnswer}
use Rattle.headers.specs.Sizes.{format}
use Rattle.reading.specs.Answer.{stays_counted, counted, read_by, answer_for}
use Rattle.asked_frame.specs.Answer.{state, done, picture, new_by, decoded}
use Rattle.asked_frame.proofs.Lent.{BlocksLent}
use Rattle.asked_frame.proofs.Answered.{passes}

-- ---- a list with zeros behind it
module _ {A : Type 0} (z : A) where
  zeros_alike : (l : List A) (m : ℕ) → Alike z (l ++ replicate m z) l
  zeros_alike [] m i = same_at m i z
  zeros_alike (x ∷ l) m zero = refl
  zeros_alike (x ∷ l) m (suc i) = zeros_alike l m i

  module _ (n : ℕ) (l : List A) (h : length l ≤ n) where
    padded_long : length (padded z n l) ≡ n
    padded_long = length-append l (replicate (n - length l) z) ∙ omega (arith, length-replicate (n - length l) z)

    padded_behind : (k : ℕ) → length l ≡ k → drop k (padded z n l) ≡ replicate (length (padded z n l) - k) z
    padded_behind k e =
        let m : n - length l ≡ length (padded z n l) - k = omega (arith, padded_long) in
        ap (λ (k : ℕ). drop k (padded z n l)) (sym e) ∙ drop-append_seam l (replicate (n - length l) z) ∙ ap (λ (k : ℕ). replicate k z) m

-- the qi of a header's array
qi_alike : (qis : List ℕ) → Alike 0 (three qis) qis
qi_alike qis = zeros_alike 0 qis (3 - length qis)

-- ---- the blocks of a frame that was read
module _ (f : PixelFormat) (w h : ℕ) (fr : Frame) (fits : Fits f w h fr) where
  abbrev b : Body
  b = fr.body

  abbrev m : Work
  m = holding f w h b

  abbrev n : ℕ
  n = length b.coded

  -- as work memory holds them, and as they were read
  abbrev held : Blocks
  held = blocks_in m.records m.coded n m.coefs m.lasts

  abbrev padded_blocks : Blocks
  padded_blocks = record { records = b.records; coded = b.coded; coefs = m.coefs; lasts = m.lasts }

  held_are : held ≡ padded_blocks
  held_are =
      let r = records_packed b.records fits.body.in_range in
      let c = take-append_seam b.coded (replicate (blocks_of f w h - n) 0) in
      λ i. record { records = r i; coded = c i; coefs = m.coefs; lasts = m.lasts }

  held_coded : CodedBlocks f w h held
  held_coded =
      subst (CodedBlocks f w h) (sym held_are)
      (coded_by f w h padded_blocks (λ k l. (all_at k fits.body.below l, fits.body.are_coded k l, in_range_at b.records (get_or b.coded k 0) fits.body.in_range))
      fits.body.every (once_at fits.body.once))

  abbrev IndexBelow : Blocks → Type 0
  IndexBelow bs = (k : ℕ) → k ∈ bs.coded → (get_or bs.records k uncoded).qi_index < length fr.header.qis

  held_index : IndexBelow held
  held_index =
      subst IndexBelow (sym held_are)
      (λ k l. let t = in_at b.coded k l in subst (λ (k : ℕ). (get_or b.records k uncoded).qi_index < length fr.header.qis) t.2 (fits.body.index t.0 t.1))

  -- the lengths
  coded_few : length b.coded ≤ blocks_of f w h
  coded_few = fits.body.most

  coefs_few : length b.tokens.coefs ≤ 64 * blocks_of f w h
  coefs_few = omega (arith, fits.body.tokens.coefs, coded_few)

  lasts_few : length b.tokens.lasts ≤ blocks_of f w h
  lasts_few = omega (arith, fits.body.tokens.lasts, coded_few)

  pub held_long : (length m.records ≡ blocks_of f w h) × (length m.coded ≡ blocks_of f w h) × (length m.coefs ≡ 64 * blocks_of f w h) × (length m.lasts ≡ blocks_of f w h)
  held_long = (
    length-map b.records packed ∙ fits.body.records,
    padded_long 0 (blocks_of f w h) b.coded coded_few,
    padded_long (pos 0) (64 * blocks_of f w h) b.tokens.coefs coefs_few,
    padded_long 0 (blocks_of f w h) b.tokens.lasts lasts_few,
  )

  pub held_lent : BlocksLent f w h m.records m.coded n m.coefs m.lasts (length fr.header.qis)
  held_lent = record {
    lent = λ matrices l. record {
      records_long = held_long.0;
      coded_long = omega (arith, held_long.1, coded_few);
      coefs_long = omega (arith, held_long.2, coded_few);
      lasts_long = omega (arith, held_long.3, coded_few);
      matrices_long = l;
      blocks = held_coded;
    };
    behind = record {
      coded_behind = padded_behind 0 (blocks_of f w h) b.coded coded_few n refl;
      coefs_behind = padded_behind (pos 0) (64 * blocks_of f w h) b.tokens.coefs coefs_few (n * 64) (omega (arith, fits.body.tokens.coefs));
      lasts_behind = padded_behind 0 (blocks_of f w h) b.tokens.lasts lasts_few n fits.body.tokens.lasts;
    };
    qi_index = held_index;
  }

  -- zeros behind the lists change no picture
  pub held_picture : (M : Matrices) (L : ℕ) (golden previous : List ℕ)
      → picture_of f w h held M L golden previous
      ≡ picture_of f w h (record { records = b.records; coded = b.coded; coefs = b.tokens.coefs; lasts = b.tokens.lasts }) M L golden previous
  held_picture M L golden previous =
      ap (λ (bs : Blocks). picture_of f w h bs M L golden previous) held_are
      ∙ lists_same f w h b.records b.coded m.coefs b.tokens.coefs m.lasts b.tokens.lasts (zeros_alike (pos 0) b.tokens.coefs (64 * blocks_of f w h - length b.tokens.coefs))
      (zeros_alike 0 b.tokens.lasts (blocks_of f w h - length b.tokens.lasts)) M L golden previous

  -- the qi of its header
  pub held_qi : AllQi (three fr.header.qis) 3
  held_qi index l =
      all_at index (all_append fits.small (all_replicate (3 - length fr.header.qis) 0 (omega arith)))
      (omega (arith, padded_long 0 3 fr.header.qis fits.most))

-- ---- a call, once its packet was read by a setup
module _ (s : Session) (setup : Setup) (packet nodes : List ℕ) (et : trees_of nodes ≡ setup.trees) {f : PixelFormat} (ef : f ≡ format s) {r : FrameRead} {m : Work}
    (er : r ≡ as_frame (frame_packet f s.fields.fmbw s.fields.fmbh (trees_of nodes) s.references packet))
    (em : m ≡ work_after f s.fields.fmbw s.fields.fmbh (frame_packet f s.fields.fmbw s.fields.fmbh (trees_of nodes) s.references packet)) where
  abbrev o : Outcome Frame
  o = frame_packet (format s) s.fields.fmbw s.fields.fmbh setup.trees s.references packet

  same : frame_packet f s.fields.fmbw s.fields.fmbh (trees_of nodes) s.references packet ≡ o
  same = λ i. frame_packet (ef i) s.fields.fmbw s.fields.fmbh (et i) s.references packet

  answer_is : r ≡ as_frame o
  answer_is = er ∙ ap as_frame same

  work_is : m ≡ work_after (format s) s.fields.fmbw s.fields.fmbh o
  work_is = em ∙ (λ i. work_after (ef i) s.fields.fmbw s.fields.fmbh (same i))

  -- the answer, whatever the packet's outcome is
  abbrev pub Answers : FrameAnswer → Type 0
  Answers a = (setup : Setup) (o : Outcome Frame) → r ≡ as_frame o → a ≡ answer_for s (after o (counted s setup))

  module _ (golden previous new : List ℕ) where
    pub on_refused : {k e : ℕ} → r.read ≡ Refused k e → (a : FrameAnswer) → Answers a → (dc : List ℤ) → dc ≡ replicate (blocks s) (pos 0)
        → done a new (record { work = m; dc = dc }) ≡ decoded first_way (state s golden previous) new (read_by s setup packet)
    on_refused {k} {e} h a ea dc ed =
        let g = read_refused o answer_is h in
        let ew = work_is ∙ ap (work_after (format s) s.fields.fmbw s.fields.fmbh) g in
        let en : new ≡ new_by first_way (state s golden previous) new (after o (counted s setup)) = ap (λ (o : Outcome Frame). new_by first_way (state s golden previous) new (after o (counted s setup))) (sym g) in
        let ea' = ea setup o answer_is in
        λ i. done (ea' i) (en i) (record { work = ew i; dc = ed i })

  module _ {count t e : ℕ} (h : r.read ≡ Whole count t e) where
    abbrev there : (fr : Frame) × (o ≡ got fr e) × (count ≡ length fr.body.coded) × (r.header ≡ as_header fr.header) × (t ≡ fr.body.tokens.tokens)
    there = read_whole o answer_is h

    abbrev fr : Frame
    fr = there.0

    fits : Fits (format s) s.fields.fmbw s.fields.fmbh fr
    fits = packet_fits (format s) s.fields.fmbw s.fields.fmbh setup.trees s.references packet there.1

    work_held : m ≡ holding (format s) s.fields.fmbw s.fields.fmbh fr.body
    work_held = work_is ∙ ap (work_after (format s) s.fields.fmbw s.fields.fmbh) there.1

    pub lent : BlocksLent f s.fields.fmbw s.fields.fmbh m.records m.coded count m.coefs m.lasts r.header.count
    lent =
        let m = sym work_held in
        let c = sym there.2 in
        let q = sym there.3 in
        transport (λ i. BlocksLent (sym ef i) s.fields.fmbw s.fields.fmbh (m i).records (m i).coded (c i) (m i).coefs (m i).lasts (q i).count) (held_lent (format s) s.fields.fmbw s.fields.fmbh fr fits)

    pub header_few : (r.header.count ≤ 3) × AllQi r.header.qis 3
    header_few = subst (λ (x : Header). (x.count ≤ 3) × AllQi x.qis 3) (sym there.3) (fits.most, held_qi (format s) s.fields.fmbw s.fields.fmbh fr fits)

    -- work memory, once what was read is cleared
    memory_is : (records coded : List ℕ) (coefs dc : List ℤ) (lasts : List ℕ) → dc ≡ replicate (blocks s) (pos 0)
        → (records ≡ replicate (length m.records) 0) × (coded ≡ replicate (length m.coded) 0) × (coefs ≡ replicate (length m.coefs) (pos 0)) × (lasts ≡ replicate (length m.lasts) 0)
        → memory records coded coefs dc lasts m.flags m.bits m.supers m.modes m.active ≡ cleared (lengths_of s)
    memory_is records coded coefs dc lasts eg zeros =
        let l = held_long (format s) s.fields.fmbw s.fields.fmbh fr fits in
        let er = zeros.0 ∙ ap (λ (k : ℕ). replicate k 0) (ap (λ (m : Work). length m.records) work_held ∙ l.0) in
        let ec = zeros.1 ∙ ap (λ (k : ℕ). replicate k 0) (ap (λ (m : Work). length m.coded) work_held ∙ l.1) in
        let ef = zeros.2 ∙ ap (λ (k : ℕ). replicate k (pos 0)) (ap (λ (m : Work). length m.coefs) work_held ∙ l.2) in
        let el = zeros.3 ∙ ap (λ (k : ℕ). replicate k 0) (ap (λ (m : Work). length m.lasts) work_held ∙ l.3) in
        λ i. memory (er i) (ec i) (ef i) (eg i) (el i) (work_held i).flags (work_held i).bits (work_held i).supers (work_held i).modes (work_held i).active

    pub on_17 : (golden previous new records coded : List ℕ) (coefs dc : List ℤ) (lasts : List ℕ) → dc ≡ replicate (blocks s) (pos 0)
        → (records ≡ replicate (length m.records) 0) × (coded ≡ replicate (length m.coded) 0) × (coefs ≡ replicate (length m.coefs) (pos 0)) × (lasts ≡ replicate (length m.lasts) 0)
        → stays_counted r.header.kind s ≡ false → (a : FrameAnswer) → Answers a
        → done a new (memory records coded coefs dc lasts m.flags m.bits m.supers m.modes m.active) ≡ decoded first_way (state s golden previous) new (read_by s setup packet)
    on_17 golden previous new records coded coefs dc lasts ed zeros sc a ea =
        let em = memory_is records coded coefs dc lasts ed zeros in
        let en = ap (new_by first_way (state s golden previous) new) (sym (passes s setup o answer_is h false sc)) in
        let ea' = ea setup o answer_is in
        λ i. done (ea' i) (en i) (em i)

    -- the frame
    module _ (golden previous new : List ℕ)
        (en : new ≡ first_way f s.fields.fmbw s.fields.fmbh (picture_of f s.fields.fmbw s.fields.fmbh (blocks_in m.records m.coded count m.coefs m.lasts)
        (λ type plane index. matrix_of setup.parameters type plane (get_or r.header.qis index 0)) (limit_of setup (get_or r.header.qis 0 0)) golden previous) previous) where
      frame_is : new ≡ first_way (format s) s.fields.fmbw s.fields.fmbh (picture s (record { setup = setup; frame = fr }) golden previous) previous
      unfolding picture
      frame_is =
          let w = s.fields.fmbw in
          let h = s.fields.fmbh in
          let b = fr.body in
          let ec = there.2 in
          let eh = there.3 in
          let qi : ◌≡◌ {A = ℕ → ℕ} (λ index. get_or (three fr.header.qis) index 0) (λ index. get_or fr.header.qis index 0) = fun_ext (qi_alike fr.header.qis) in
          en
          ∙ (λ i. first_way (ef i) w h (picture_of (ef i) w h (blocks_in (work_held i).records (work_held i).coded (ec i) (work_held i).coefs (work_held i).lasts)
          (λ type plane index. matrix_of setup.parameters type plane (get_or (eh i).qis index 0)) (get_or setup.limits (get_or (eh i).qis 0 0) 0) golden previous) previous)
          ∙ ap (λ (P : Picture). first_way (format s) w h P previous)
          (held_picture (format s) w h fr fits (λ type plane index. matrix_of setup.parameters type plane (get_or (three fr.header.qis) index 0)) (get_or setup.limits (get_or (three fr.header.qis) 0 0) 0) golden previous)
          ∙ (λ i. first_way (format s) w h (picture_of (format s) w h (record { records = b.records; coded = b.coded; coefs = b.tokens.coefs; lasts = b.tokens.lasts })
          (λ type plane index. matrix_of setup.parameters type plane (qi i index)) (get_or setup.limits (qi i 0) 0) golden previous) previous)

      -- the answer
      module _ (records coded : List ℕ) (coefs dc dc₀ : List ℤ) (lasts : List ℕ) (ed : dc₀ ≡ replicate (blocks s) (pos 0))
          (zeros : (records ≡ replicate (length m.records) 0) × (coded ≡ replicate (length m.coded) 0) × (coefs ≡ replicate (length m.coefs) (pos 0)) × (dc ≡ replicate (length dc₀) (pos 0)) × (lasts ≡ replicate (length m.lasts) 0)) where
        pub on_accepted : (new₀ : List ℕ) → stays_counted r.header.kind s ≡ true → (a : FrameAnswer) → Answers a
            → done a new (memory records coded coefs dc lasts m.flags m.bits m.supers m.modes m.active) ≡ decoded first_way (state s golden previous) new₀ (read_by s setup packet)
        on_accepted new₀ sc a ea =
            let ld : length dc₀ ≡ blocks s = ap length ed ∙ length-replicate (blocks s) (pos 0) in
            let em = memory_is records coded coefs dc lasts (zeros.3 ∙ ap (λ (k : ℕ). replicate k (pos 0)) ld) (zeros.0, zeros.1, zeros.2, zeros.4) in
            let en = frame_is ∙ ap (new_by first_way (state s golden previous) new₀) (sym (passes s setup o answer_is h true sc)) in
            let ea' = ea setup o answer_is in
            λ i. done (ea' i) (en i) (em i)

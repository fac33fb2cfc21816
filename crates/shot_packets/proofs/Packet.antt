-- One packet of a shot: what is lent, and that it is the frame call. Assumes nothing.
use Prim.Native.Nat.{ℕ, zero, suc, ◌*◌, ◌≤◌, ◌<◌, ◌^◌}
use native.Mathlib.Omega.{arith}
use mathlib.Core.Path.{◌≡◌, refl, sym, ap, ◌∙◌, subst⁻¹}
use mathlib.Core.Bool.{Bool, true, false, ◌&&◌}
use mathlib.Core.List.{List, [], ◌∷◌, ◌++◌}
use lib.IntN.{ℤ, pos}
use lib.ListN.{length, get_or, set, replicate, length-replicate}
use borrow.Author.Tests.{eq-eqb}
use Rattle.bitstream.specs.Answer.{readable}
use Rattle.bitstream.proofs.Spends.{readable_short}
use Rattle.headers.specs.declared.Session.{Session}
use Rattle.headers.specs.Fits.{all, session_fits}
use Rattle.setup.specs.Header.{Setup}
use Rattle.setup.specs.Table.{table_bytes}
use Rattle.setup.specs.declared.LoadedSetup.{LoadedSetup}
use Rattle.ways.specs.Ways.{first_way}
use Rattle.reconstruct.specs.Picture.{picture_of}
use Rattle.reconstruct.specs.Lent.{blocks_in, matrix_in}
use Rattle.work_memory.specs.Memory.{Work, Memory, memory}
use Rattle.work_memory.specs.Lengths.{blocks, super_blocks, macro_blocks, lengths_of, lengths_fit, cleared}
use Rattle.reading.specs.declared.FrameAnswer.{FrameAnswer}
use Rattle.reading.specs.Answer.{read_by, read}
use Rattle.reading.proofs.Readable.{read_readable}
use Rattle.decoding.specs.declared.Prepared.{Prepared}
use Rattle.asked_frame.specs.Answer.{Done, state, done, decoded}
use Rattle.decoding.specs.Ready.{Ready}
use Rattle.decoding.proofs.Answers.{decoded_by}
use Rattle.calls.specs.Lengths.{buffers_fit}
use Rattle.calls.specs.Call.{Call, call, by_rules}
use Rattle.buffer_names.specs.declared.Names.{Names}
use Rattle.buffer_names.specs.Names.{free, names_after}
use Rattle.buffer_names.proofs.Free.{free_is}
use Rattle.frame_into.specs.Buffers.{buffer_of}
use Rattle.frame_into.proofs.Lent.{big}
use Rattle.shot_packets.specs.Play.{Shot, shot, state_of, call_of, after, one_more}
use Rattle.shot_packets.specs.Inner.{TableLoaded}
use Rattle.shot_packets.proofs.Rules.{by_decoded}

-- ---- the packet that is read
pub part_few : (part packet : List ℕ) → part ≡ readable packet → length part ≤ 2 ^ 58
part_few part packet e = subst⁻¹ (λ (p : List ℕ). length p ≤ 2 ^ 58) e (readable_short packet)

pub into_is : (s : Session) → session_fits s ≡ true → (table : List ℕ) {l : LoadedSetup} (t : TableLoaded table l) (packet part : List ℕ) → part ≡ readable packet
    → (golden previous new : List ℕ) (d : Done) → d ≡ decoded first_way (state s golden previous) new (read_by s t.setup part) → d ≡ decoded first_way (state s golden previous) new (read s table packet)
into_is s fits table t packet part ep golden previous new d e =
    decoded_by s golden previous part table new t.held d e ∙ ap (λ (p : List ℕ). decoded first_way (state s golden previous) new (read s table p)) ep
    ∙ ap (decoded first_way (state s golden previous) new) (read_readable s fits table packet)

-- ---- lengths
-- work memory that is all zero has its lengths
pub cleared_memory : (s : Session) → lengths_fit (lengths_of s) (cleared (lengths_of s)) ≡ true
unfolding lengths_fit all
cleared_memory s =
    let n = eq-eqb _ _ (length-replicate {A = ℕ} (blocks s) 0) in
    let z = eq-eqb _ _ (length-replicate (blocks s) (pos 0)) in
    let k = eq-eqb _ _ (length-replicate (64 * blocks s) (pos 0)) in
    let u = eq-eqb _ _ (length-replicate {A = ℕ} (2 * super_blocks s) 0) in
    let m = eq-eqb _ _ (length-replicate {A = ℕ} (macro_blocks s) 0) in
    λ i. all (n i ∷ n i ∷ k i ∷ z i ∷ n i ∷ n i ∷ n i ∷ u i ∷ m i ∷ n i ∷ [])

module _ (s : Session) (golden previous new table : List ℕ) (hg : length golden ≡ 64 * blocks s) (hp : length previous ≡ 64 * blocks s) (hn : length new ≡ 64 * blocks s) (ht : length table ≡ table_bytes) where
  pub buffers_fit_law : buffers_fit (blocks s) golden previous new table ≡ true
  unfolding buffers_fit all
  buffers_fit_law =
      let a = eq-eqb _ _ hg in
      let b = eq-eqb _ _ hp in
      let c = eq-eqb _ _ hn in
      let d = eq-eqb _ _ ht in
      λ i. all (a i ∷ b i ∷ c i ∷ d i ∷ [])

  pub fit_with : (m : Memory) → lengths_fit (lengths_of s) m ≡ true → (buffers_fit (blocks s) golden previous new table && lengths_fit (lengths_of s) m) ≡ true
  fit_with m h = λ i. buffers_fit_law i && h i

  pub cleared_fit : (buffers_fit (blocks s) golden previous new table && lengths_fit (lengths_of s) (cleared (lengths_of s))) ≡ true
  cleared_fit = fit_with (cleared (lengths_of s)) (cleared_memory s)

-- ---- every buffer has the length of a frame
module _ (x y z : List ℕ) {n : ℕ} (hx : length x ≡ n) (hy : length y ≡ n) (hz : length z ≡ n) where
  pub buffer_long : (k : ℕ) → length (buffer_of (x ∷ y ∷ z ∷ []) k) ≡ n
  buffer_long zero = hx
  buffer_long (suc zero) = hy
  buffer_long (suc (suc zero)) = hz
  buffer_long (suc (suc (suc k))) = ap length (big x y z (suc (suc (suc k))) (omega arith)) ∙ hy

  pub plane_long : (k : ℕ) → k < 3 → length (get_or (x ∷ y ∷ z ∷ []) k []) ≡ n
  plane_long zero l = hx
  plane_long (suc zero) l = hy
  plane_long (suc (suc zero)) l = hz
  plane_long (suc (suc (suc k))) l = absurd (omega arith)

-- ---- one packet more
module _ (s : Session) (fits : session_fits s ≡ true) (x y z : List ℕ) (n : Names) (m : Memory) (em : m ≡ cleared (lengths_of s)) (table packet : List ℕ) (ht : length table ≡ table_bytes)
    (hx : length x ≡ 64 * blocks s) (hy : length y ≡ 64 * blocks s) (hz : length z ≡ 64 * blocks s) where
  pub more_is : let h = shot s (x ∷ y ∷ z ∷ []) n m [] in (d : Done) → d ≡ decoded first_way (state_of h) (call_of table h packet).new (read s table packet)
      → (planes' : List (List ℕ)) → set (x ∷ y ∷ z ∷ []) (free n) d.new ≡ planes' → (n' : Names) → n' ≡ names_after n (free n) d.answer.verdict d.answer.header.kind
      → (answers : List FrameAnswer) → shot d.answer.session planes' n' d.memory (answers ++ (d.answer ∷ [])) ≡ one_more (by_rules first_way) table (shot s (x ∷ y ∷ z ∷ []) n m answers) packet
  unfolding one_more
  more_is d e planes' es n' ea answers =
      let h : Shot = shot s (x ∷ y ∷ z ∷ []) n m answers in
      let c : Call = call_of table h packet in
      let fit = cleared_fit s (state_of h).golden (state_of h).previous c.new table (buffer_long x y z hx hy hz n.golden) (buffer_long x y z hx hy hz n.previous) (plane_long x y z hx hy hz (free n) (free_is n).named) ht in
      let by : d ≡ by_rules first_way (state_of h) c
      = e ∙ sym (ap (λ (m : Memory). by_rules first_way (state_of h) (call packet table m c.new)) em ∙ by_decoded first_way (state_of h) packet table c.new fits (cleared (lengths_of s)) fit) in
      (λ i. shot d.answer.session (sym es i) (ea i) d.memory (answers ++ (d.answer ∷ []))) ∙ ap (after h) by

-- ---- the same, once the packet was read and its frame was made
module _ (s : Session) (setup : Setup) (packet : List ℕ) (p : Prepared) (w : Work) (ready : Ready s setup packet p w) (x y z : List ℕ) (n : Names) (j : ℕ) (ej : j ≡ free n) (dc : List ℤ) (ed : dc ≡ replicate (blocks s) (pos 0))
    (x' y' z' records coded : List ℕ) (coefs dc' : List ℤ) (lasts : List ℕ) where
  abbrev planes : List (List ℕ)
  planes = x ∷ y ∷ z ∷ []

  abbrev golden : List ℕ
  golden = buffer_of planes n.golden

  abbrev previous : List ℕ
  previous = buffer_of planes n.previous

  abbrev old : List ℕ
  old = get_or planes (free n) []

  abbrev left : Memory
  left = memory records coded coefs dc' lasts w.flags w.bits w.supers w.modes w.active

  -- what stands in the free buffer now, as the call left it
  pub record Put : Type 0 where
    pub new : List ℕ
    pub stands : set planes (free n) new ≡ x' ∷ y' ∷ z' ∷ []
    pub is : done p.answer new left ≡ decoded first_way (state s golden previous) old (read_by s setup packet)

  abbrev frame : List ℕ
  frame =
      first_way p.format s.fields.fmbw s.fields.fmbh
      (picture_of p.format s.fields.fmbw s.fields.fmbh (blocks_in w.records w.coded p.count w.coefs w.lasts) (matrix_in p.kept.values) p.limit golden previous) previous

  abbrev Made : Type 0
  Made =
      (x' ∷ y' ∷ z' ∷ [] ≡ set planes j frame)
      × (records ≡ replicate (length w.records) 0) × (coded ≡ replicate (length w.coded) 0) × (coefs ≡ replicate (length w.coefs) (pos 0)) × (dc' ≡ replicate (length dc) (pos 0)) × (lasts ≡ replicate (length w.lasts) 0)

  abbrev Kept : Type 0
  Kept = (x' ≡ x) × (y' ≡ y) × (z' ≡ z) × (records ≡ w.records) × (coded ≡ w.coded) × (coefs ≡ w.coefs) × (dc' ≡ dc) × (lasts ≡ w.lasts)

  pub put_is : (p.accepted ≡ true → Made) → (p.accepted ≡ false → Kept) → Put
  put_is made kept = go p.accepted refl
    where
      set_same : (k : ℕ) → k < 3 → set planes k (get_or planes k []) ≡ planes
      set_same zero l = refl
      set_same (suc zero) l = refl
      set_same (suc (suc zero)) l = refl
      set_same (suc (suc (suc k))) l = absurd (omega arith)

      go : (b : Bool) → p.accepted ≡ b → Put
      go true t =
          let f = made t in
          record {
            new = frame;
            stands = sym (f.0 ∙ ap (λ (k : ℕ). set planes k frame) ej);
            is = (ready.accepted t).made golden previous frame old refl records coded coefs dc' dc lasts ed (record { records_zero = f.1; coded_zero = f.2; coefs_zero = f.3; dc_zero = f.4; lasts_zero = f.5 });
          }
      go false t =
          let (ex, ey, ez, er, ec, ef, eg, el) = kept t in
          record {
            new = old;
            stands = set_same (free n) (free_is n).named ∙ (λ i. sym ex i ∷ sym ey i ∷ sym ez i ∷ []);
            is = (λ i. done p.answer old (memory (er i) (ec i) (ef i) (eg i) (el i) w.flags w.bits w.supers w.modes w.active)) ∙ ready.refused t golden previous old dc ed;
          }

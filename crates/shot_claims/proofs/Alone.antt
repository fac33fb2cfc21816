-- Without references what is lent as golden and previous does not matter: such a packet is refused, or gives an intra frame, of which every
-- block is coded and predicted from no reference. Assumes nothing.
use Prim.Native.Nat.{ℕ, ◌*◌}
use native.Mathlib.Omega.{arith}
use mathlib.Core.Path.{◌≡◌, refl, sym, ap, ◌∙◌}
use mathlib.Core.Bool.{Bool, true, false, cond, ◌&&◌, true≢false}
use mathlib.Core.List.{List, [], ◌∷◌}
use mathlib.Core.Logic.{⊎_elim}
use lib.Dec.{eqb}
use lib.ListN.{length, get_or}
use lib.Seq.{ext_get_or}
use Rattle.bitstream.specs.Reading.{Outcome, got, refused, choose}
use Rattle.geometry.specs.declared.PixelFormat.{PixelFormat}
use Rattle.geometry.specs.declared.Block.{Block}
use Rattle.geometry.specs.Raster.{raster_number}
use Rattle.geometry.specs.Sample.{sample_at}
use Rattle.geometry.proofs.SampleLaws.{sample_hit}
use Rattle.headers.specs.declared.Session.{Session}
use Rattle.headers.specs.Fits.{all, session_fits}
use Rattle.headers.specs.Sizes.{format}
use Rattle.setup.specs.Loaded.{limit_of}
use Rattle.setup.specs.Table.{table_bytes}
use Rattle.block_record.specs.declared.Prediction.{Prediction}
use Rattle.block_record.specs.declared.Prediction.TheVariants.{None}
use Rattle.frame_header.specs.declared.Kind.TheVariants.{Intra}
use Rattle.frame_packet.proofs.Fits.{packet_fits}
use Rattle.frame_packet.proofs.Intra.{intra_coded}
use Rattle.prediction.specs.Predicted.{predicted, summed}
use Rattle.loop_filter.specs.Filter.{filtered}
use Rattle.ways.specs.Raster.{each_sample}
use Rattle.ways.specs.Ways.{made, filter_all, first_way}
use Rattle.ways.proofs.Where.{Within, each_sample_at, samples_length}
use Rattle.reconstruct.specs.Picture.{Blocks, Matrices, record_of, residual_of, sample_of, picture_of}
use Rattle.work_memory.specs.Lengths.{blocks, lengths_of, lengths_fit, cleared}
use Rattle.reading.specs.Answer.{Asked, read, answer_for}
use Rattle.asked_frame.specs.Answer.{State, state, done, blocks_asked, matrices_asked, qi_at, picture, new_by}
use Rattle.calls.specs.Lengths.{buffers_fit}
use Rattle.calls.specs.Call.{Call, lengths_hold, outcome_of, memory_after, by_rules}
use Rattle.calls.proofs.Tokens.{outcome_got}
use Rattle.shot_packets.proofs.Rules.{outcome_kind}
use Rattle.shot_claims.specs.Claims.{Alone}

-- ---- a frame whose blocks are all coded, and predicted from no reference
module _ (f : PixelFormat) (w h : ℕ) (bs : Blocks) (M : Matrices) (L : ℕ) (all_coded : (b : Block) (c r : ℕ) → Within f w h b c r → (record_of f w h bs b).coded ≡ true)
    (alone : (b : Block) → (record_of f w h bs b).prediction ≡ None) where
  sample_alone : (golden previous golden' previous' : List ℕ) (b : Block) (c r : ℕ) → sample_of f w h bs M golden previous b c r ≡ sample_of f w h bs M golden' previous' b c r
  unfolding sample_of summed predicted
  sample_alone golden previous golden' previous' b c r =
      ap (λ (p : Prediction). summed f w h golden previous (residual_of f w h bs M b) p b c r) (alone b)
      ∙ ap (λ (p : Prediction). summed f w h golden' previous' (residual_of f w h bs M b) p b c r) (sym (alone b))

  made_alone : (golden previous golden' previous' : List ℕ) (b : Block) (c r : ℕ) → Within f w h b c r
      → made f w h (picture_of f w h bs M L golden previous) previous b c r ≡ made f w h (picture_of f w h bs M L golden' previous') previous' b c r
  unfolding made picture_of
  made_alone golden previous golden' previous' b c r o =
      let t = all_coded b c r o in
      let at = sample_at f w h b c r in
      ap (λ (t : Bool). cond t (sample_of f w h bs M golden previous b c r) (get_or previous at 0)) t
      ∙ sample_alone golden previous golden' previous' b c r
      ∙ ap (λ (t : Bool). cond t (sample_of f w h bs M golden' previous' b c r) (get_or previous' at 0)) (sym t)

  pub frame_alone : (golden previous golden' previous' : List ℕ)
      → first_way f w h (picture_of f w h bs M L golden previous) previous ≡ first_way f w h (picture_of f w h bs M L golden' previous') previous'
  unfolding first_way picture_of
  frame_alone golden previous golden' previous' =
      let g = made f w h (picture_of f w h bs M L golden previous) previous in
      let k = made f w h (picture_of f w h bs M L golden' previous') previous' in
      ap (filter_all f w h (λ b. (record_of f w h bs b).coded) (filtered L))
      (ext_get_or 0 (each_sample f w h g) (each_sample f w h k) (samples_length f w h g ∙ sym (samples_length f w h k))
      (λ i l.
      let t = sample_hit f w h i (let e = samples_length f w h g in omega arith) in
      let b = t.0.block in
      let c = t.0.column in
      let r = t.0.row in
      let o : Within f w h b c r = record { inside = t.1.in_frame; column = t.1.column; row = t.1.row } in
      ap (λ (n : ℕ). get_or (each_sample f w h g) n 0) (sym t.1.lies)
      ∙ each_sample_at f w h g 0 b c r o ∙ made_alone golden previous golden' previous' b c r o ∙ sym (each_sample_at f w h k 0 b c r o)
      ∙ ap (λ (n : ℕ). get_or (each_sample f w h k) n 0) t.1.lies))

-- ---- a call
module _ (s : Session) (golden previous golden' previous' : List ℕ) (c : Call) (none : s.references ≡ false) (eg : length golden ≡ length golden') (ep : length previous ≡ length previous') where
  abbrev st : State
  st = state s golden previous

  abbrev st' : State
  st' = state s golden' previous'

  hold_same : lengths_hold st c ≡ lengths_hold st' c
  unfolding buffers_fit
  hold_same = λ i. all (eqb (eg i) (64 * blocks s) ∷ eqb (ep i) (64 * blocks s) ∷ eqb (length c.new) (64 * blocks s) ∷ eqb (length c.table) table_bytes ∷ []) && lengths_fit (lengths_of s) c.memory

  outcome_same : outcome_of st c ≡ outcome_of st' c
  unfolding outcome_of
  outcome_same = ap (λ (b : Bool). choose (session_fits s) (choose b (read s c.table c.packet) (refused 1 0)) (refused 8 0)) hold_same

  memory_same : memory_after st c ≡ memory_after st' c
  unfolding memory_after
  memory_same = ap (λ (b : Bool). choose (session_fits s && b) (cleared (lengths_of s)) c.memory) hold_same

  new_same : (o : Outcome Asked) → outcome_of st c ≡ o → new_by first_way st c.new o ≡ new_by first_way st' c.new o
  unfolding picture record_of
  new_same (refused k e) h = refl
  new_same (got a e) h =
      let kind : a.frame.header.kind ≡ Intra = ⊎_elim (λ y. y) (λ y. absurd (true≢false (sym y ∙ none))) (outcome_kind st c h) in
      let reads = (outcome_got st c h).0 in
      let fits = packet_fits (format s) s.fields.fmbw s.fields.fmbh a.setup.trees s.references c.packet reads in
      frame_alone (format s) s.fields.fmbw s.fields.fmbh (blocks_asked a) (matrices_asked a) (limit_of a.setup (qi_at a 0))
      (λ b x y o. intra_coded (format s) s.fields.fmbw s.fields.fmbh a.setup.trees s.references c.packet reads kind b o.inside)
      (λ b. fits.body.intra kind (raster_number (format s) s.fields.fmbw s.fields.fmbh b)) golden previous golden' previous'

  pub call_alone : by_rules first_way st c ≡ by_rules first_way st' c
  unfolding by_rules
  call_alone =
      let n = new_same (outcome_of st c) refl in
      (λ i. done (answer_for s (outcome_of st c)) (n i) (memory_same i))
      ∙ ap (λ (o : Outcome Asked). done (answer_for s o) (new_by first_way st' c.new o) (memory_after st' c)) outcome_same

pub alone : Alone
alone = call_alone

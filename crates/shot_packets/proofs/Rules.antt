-- What stays from packet to packet, by the rules. Assumes nothing.
use Prim.Native.Nat.{ℕ, ◌*◌, ◌<◌}
use native.Mathlib.Omega.{arith}
use mathlib.Core.Path.{◌≡◌, refl, sym, ap, ◌∙◌, subst}
use mathlib.Core.Bool.{Bool, true, false}
use mathlib.Core.List.{List, [], ◌∷◌, ◌++◌}
use mathlib.Core.Logic.{◌⊎◌, inl, inr, ⊎_elim, ◌≢◌}
use lib.Dec.{eqb}
use lib.ListN.{length, get_or, set, length-set}
use lib.Seq.{get_or-set_same, get_or-set_other}
use borrow.Author.Tests.{eqb-true, lt-ltb}
use Rattle.bitstream.specs.Reading.{Outcome, got, refused, choose}
use Rattle.bitstream.proofs.Fields.{no_mix}
use Rattle.headers.specs.declared.Session.{Session}
use Rattle.headers.specs.Fits.{session_fits}
use Rattle.headers.specs.Sizes.{format}
use Rattle.bitstream.proofs.ListLaws.{and_both}
use Rattle.setup.specs.Header.{setup_header}
use Rattle.setup.specs.Loaded.{Holds}
use Rattle.setup.specs.declared.LoadedSetup.{LoadedSetup}
use Rattle.setup.specs.Table.{table_bytes, is_table, held_setup}
use Rattle.setup.proofs.Held.{held_reads}
use Rattle.table_memory.specs.Genuine.{ends_clear, genuine}
use Rattle.frame_header.specs.declared.Kind.{Kind}
use Rattle.frame_header.specs.declared.Kind.TheVariants.{Intra, Inter, Repeat}
use Rattle.frame_packet.proofs.Fits.{packet_repeat, packet_kind}
use Rattle.work_memory.specs.Memory.{Memory}
use Rattle.work_memory.specs.Lengths.{blocks, lengths_of, cleared}
use Rattle.reading.specs.declared.FrameAnswer.{FrameAnswer}
use Rattle.reading.specs.declared.Verdict.{Verdict}
use Rattle.reading.specs.declared.Verdict.TheVariants.{Accepted, Refused}
use Rattle.reading.specs.Answer.{Asked, stays_counted, read, session_after, answer_for}
use Rattle.reading.proofs.Counted.{fits_after}
use Rattle.reading.proofs.Places.{outcome_by}
use Rattle.asked_frame.specs.Answer.{State, Done, Way, state, done, new_by, decoded}
use Rattle.calls.specs.Call.{Call, call, lengths_hold, outcome_of, memory_after, by_rules}
use Rattle.calls.specs.Demand.{handed_on}
use Rattle.calls.proofs.Tokens.{outcome_got}
use Rattle.buffer_names.specs.declared.Names.{Names}
use Rattle.buffer_names.specs.Names.{names, free, names_after, Sound}
use Rattle.buffer_names.proofs.Free.{free_is}
use Rattle.frame_into.specs.Buffers.{buffer_of, index}
use Rattle.shot_packets.specs.Play.{Shot, shot, state_of, call_of, after}
use Rattle.shot_packets.specs.Inner.{TableLoaded}

-- ---- an accepted frame without references is an intra frame
abbrev IntraUnless : Session → Kind → Type 0
IntraUnless s kind = (kind ≡ Intra) ⊎ (s.references ≡ true)

pub outcome_kind : (st : State) (c : Call) {a : Asked} {e : ℕ} → outcome_of st c ≡ got a e → IntraUnless st.session a.frame.header.kind
outcome_kind st c {a} {e} h = go c.packet (outcome_got st c h).0
  where
    go : (p : List ℕ) → outcome_by st.session p a.setup ≡ got a.frame e → IntraUnless st.session a.frame.header.kind
    go [] h = let s = st.session in inr (packet_repeat (format s) s.fields.fmbw s.fields.fmbh a.setup.trees s.references h).2
    go (b ∷ p) h =
        let s = st.session in
        ⊎_elim inl (λ k. inr k.1) (packet_kind (format s) s.fields.fmbw s.fields.fmbh a.setup.trees s.references (b ∷ p) (omega arith) h)

-- ---- sizes do not change
pub blocks_after : (kind : Kind) (s : Session) → blocks (session_after kind s) ≡ blocks s
unfolding session_after
blocks_after Intra s = refl
blocks_after Inter s = refl
blocks_after Repeat s = refl

pub cleared_after : (kind : Kind) (s : Session) → cleared (lengths_of (session_after kind s)) ≡ cleared (lengths_of s)
unfolding session_after
cleared_after Intra s = refl
cleared_after Inter s = refl
cleared_after Repeat s = refl

-- ---- nor do the fields of the session
after_fields : (kind : Kind) (s : Session) → (session_after kind s).fields ≡ s.fields
unfolding session_after
after_fields Intra s = refl
after_fields Inter s = refl
after_fields Repeat s = refl

pub answer_fields : (s : Session) (o : Outcome Asked) → (answer_for s o).session.fields ≡ s.fields
answer_fields s (refused k e) = refl
answer_fields s (got a e) = after_fields a.frame.header.kind s

-- ---- names that are sound
small_index : (k : ℕ) → k < 3 → index k ≡ k
small_index k l = ap (λ (t : Bool). choose t k 1) (lt-ltb k 3 l)

module _ (s : Session) (n : Names) (sound : Sound s n) where
  -- the buffers that are lent are not the new one
  abbrev Apart : Names → Type 0
  Apart n = (index n.golden ≢ free n) × (index n.previous ≢ free n)

  three_apart : Apart (names 3 3)
  unfolding free
  three_apart = ((λ z. omega arith), (λ z. omega arith))

  pub apart : Apart n
  apart = go s.references refl
    where
      go : (t : Bool) → s.references ≡ t → Apart n
      go true h =
          let f = free_is n in
          let l = sound.named h in (
            (λ z. f.not_golden (sym z ∙ small_index n.golden l.0)),
            (λ z. f.not_previous (sym z ∙ small_index n.previous l.1)),
          )
      go false h = subst Apart (sym (sound.unnamed h)) three_apart

  pub sound_refused : (j e : ℕ) (kind : Kind) → Sound s (names_after n (free n) (Refused j e) kind)
  sound_refused j e kind = sound

  pub sound_accepted : (t : ℕ) (kind : Kind) → IntraUnless s kind → Sound (session_after kind s) (names_after n (free n) (Accepted t) kind)
  unfolding session_after
  sound_accepted t Intra h = let l = (free_is n).named in record { named = λ _. (l, l); unnamed = λ z. let y : ◌≡◌ {A = ℕ} 0 1 = cc in absurd (omega arith) }
  sound_accepted t Inter h = ⊎_elim (λ k. let y : ◌≡◌ {A = ℕ} 0 1 = cc in absurd (omega arith)) (λ k. record { named = λ _. ((sound.named k).0, (free_is n).named); unnamed = λ z. let y : ◌≡◌ {A = ℕ} 0 1 = cc in absurd (omega arith) }) h
  sound_accepted t Repeat h = ⊎_elim (λ k. let y : ◌≡◌ {A = ℕ} 0 1 = cc in absurd (omega arith)) (λ k. record { named = λ _. ((sound.named k).0, (free_is n).named); unnamed = λ z. let y : ◌≡◌ {A = ℕ} 0 1 = cc in absurd (omega arith) }) h

-- ---- after a call, golden and previous are what the named buffers hold
module _ (h : Shot) (three : length h.planes ≡ 3) (sound : Sound h.session h.names) where
  abbrev k : ℕ
  k = free h.names

  kept : (new : List ℕ) (j : ℕ) → index j ≢ k → buffer_of (set h.planes k new) j ≡ buffer_of h.planes j
  kept new j apart = get_or-set_other h.planes k (index j) new [] apart

  put : (new : List ℕ) → buffer_of (set h.planes k new) k ≡ new
  put new =
      let l = (free_is h.names).named in
      ap (λ (j : ℕ). get_or (set h.planes k new) j []) (small_index k l) ∙ get_or-set_same h.planes k new [] (omega arith)

  handed : (v : Verdict) (kind : Kind) (s : Session) (new : List ℕ) (m : Memory) (answers : List FrameAnswer)
      → state_of (shot s (set h.planes k new) (names_after h.names k v kind) m answers) ≡ handed_on (state_of h) v kind s new
  handed (Refused j e) kind s new m answers =
      let a = apart h.session h.names sound in
      let g = kept new h.names.golden a.0 in
      let p = kept new h.names.previous a.1 in
      λ i. state s (g i) (p i)
  handed (Accepted t) Intra s new m answers = λ i. state s (put new i) (put new i)
  handed (Accepted t) Inter s new m answers = let g = kept new h.names.golden (apart h.session h.names sound).0 in λ i. state s (g i) (put new i)
  handed (Accepted t) Repeat s new m answers = let g = kept new h.names.golden (apart h.session h.names sound).0 in λ i. state s (g i) (put new i)

  pub state_handed : (d : Done) → state_of (after h d) ≡ handed_on (state_of h) d.answer.verdict d.answer.header.kind d.answer.session d.new
  state_handed d = handed d.answer.verdict d.answer.header.kind d.answer.session d.new d.memory (h.answers ++ (d.answer ∷ []))

  pub three_after : (d : Done) → length (after h d).planes ≡ 3
  three_after d = length-set h.planes k d.new ∙ three

  -- by the rules the names stay sound
  pub sound_after : (way : Way) (c : Call) → let g = after h (by_rules way (state_of h) c) in Sound g.session g.names
  unfolding by_rules
  sound_after way c = go (outcome_of (state_of h) c) refl
    where
      go : (o : Outcome Asked) → outcome_of (state_of h) c ≡ o → let g = after h (done (answer_for h.session o) (new_by way (state_of h) c.new o) (memory_after (state_of h) c)) in Sound g.session g.names
      go (refused j e) w = sound_refused h.session h.names sound j e Repeat
      go (got a e) w = sound_accepted h.session h.names sound a.frame.body.tokens.tokens a.frame.header.kind (outcome_kind (state_of h) c w)

-- ---- the rules do not look at what work memory held
module _ (way : Way) (st : State) (p t new : List ℕ) (fits : session_fits st.session ≡ true) where
  -- a call past its length check
  pub by_decoded : (m : Memory) → lengths_hold st (call p t m new) ≡ true → by_rules way st (call p t m new) ≡ decoded way st new (read st.session t p)
  unfolding by_rules outcome_of memory_after
  by_decoded m l = rw (fits, l)

  pub any_memory : (m m' : Memory) → lengths_hold st (call p t m new) ≡ true → lengths_hold st (call p t m' new) ≡ true → by_rules way st (call p t m new) ≡ by_rules way st (call p t m' new)
  any_memory m m' l l' = by_decoded m l ∙ sym (by_decoded m' l')

-- ---- an answer's session fits, and keeps its sizes
pub session_kept : (s : Session) → session_fits s ≡ true → (o : Outcome Asked) → ((a : Asked) (e : ℕ) → o ≡ got a e → stays_counted a.frame.header.kind s ≡ true)
    → let s' = (answer_for s o).session in (session_fits s' ≡ true) × (cleared (lengths_of s') ≡ cleared (lengths_of s)) × (blocks s' ≡ blocks s)
session_kept s fits (refused k e) stays = (fits, refl, refl)
session_kept s fits (got a e) stays = let kind = a.frame.header.kind in (fits_after kind s fits (stays a e refl), cleared_after kind s, blocks_after kind s)

-- a setup that was loaded out of a genuine table memory
module _ (t : List ℕ) {l : LoadedSetup} (h : TableLoaded t l) where
  pub loaded_genuine : is_table t ≡ true
  unfolding held_setup
  loaded_genuine = go (is_table t) h.held
    where
      go : (b : Bool) → choose b (setup_header t 0) (refused 8 0) ≡ got h.setup h.end → b ≡ true
      go true r = refl
      go false r = no_mix (sym r)

  pub loaded_whole : length t ≡ table_bytes
  unfolding genuine
  loaded_whole = eqb-true _ _ (and_both (eqb (length t) table_bytes) (ends_clear t (setup_header t 0)) loaded_genuine).0

  pub loaded_holds : Holds t l h.setup
  loaded_holds = record { end = h.end; reads = held_reads t h.held; is = h.is }

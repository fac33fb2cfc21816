-- The session's two numbers count what they say, a session that fits stays one, and 17 comes exactly where everything else passes. Assumes nothing.
use Prim.Native.Nat.{ℕ}
use native.Mathlib.Omega.{arith}
use mathlib.Core.Path.{◌≡◌, refl, ap, ◌∙◌}
use mathlib.Core.Bool.{Bool, true, false, false≢true}
use mathlib.Core.List.{List, [], ◌∷◌}
use Rattle.bitstream.specs.Lists.{among}
use Rattle.bitstream.specs.Reading.{Outcome, got, refused, choose}
use Rattle.headers.specs.declared.Session.{Session}
use Rattle.headers.specs.Fits.{session_fits}
use Rattle.headers.specs.Sizes.{format}
use Rattle.headers.proofs.Accepted.{accepted_fits}
use Rattle.frame_header.specs.declared.Kind.{Kind}
use Rattle.frame_header.specs.declared.Kind.TheVariants.{Intra, Inter, Repeat}
use Rattle.frame_packet.proofs.Laws.{packet_numbers, packet_refuses}
use Rattle.reading.specs.declared.Verdict.{Verdict}
use Rattle.reading.specs.declared.Verdict.TheVariants.{Accepted, Refused}
use Rattle.reading.specs.Answer.{Asked, stays_counted, read, session_after, answer_for}
use Rattle.reading.specs.Counted.{Uncounted}
use Rattle.reading.proofs.Places.{read_refused}
use Rattle.reading.proofs.Counted.{fits_after}
use Rattle.asked_frame.specs.Answer.{Way, State}
use Rattle.calls.specs.Call.{Call, lengths_hold, outcome_of, by_rules}
use Rattle.calls.specs.Demand.{handed_on, turn, turns}
use Rattle.calls.specs.KeyFrames.{key_frame_after, other_after, key_frames, others_since, session_behind, BothStart, NumbersCount, SessionsFit, SeventeenExactly}
use Rattle.calls.proofs.Tokens.{outcome_got}

pub both_start : BothStart
both_start p s e h = let a = accepted_fits p 0 h in (a.2, a.3)

-- ---- one answer
module _ (s : Session) where
  kind_key : (kind : Kind) (t : ℕ) → (session_after kind s).key_frames ≡ key_frame_after (Accepted t) kind s.key_frames
  unfolding session_after
  kind_key Intra t = refl
  kind_key Inter t = refl
  kind_key Repeat t = refl

  kind_other : (kind : Kind) (t : ℕ) → (session_after kind s).others ≡ other_after (Accepted t) kind s.others
  unfolding session_after
  kind_other Intra t = refl
  kind_other Inter t = refl
  kind_other Repeat t = refl

  answer_key : (o : Outcome Asked) → let a = answer_for s o in a.session.key_frames ≡ key_frame_after a.verdict a.header.kind s.key_frames
  answer_key (refused k e) = refl
  answer_key (got a e) = kind_key a.frame.header.kind a.frame.body.tokens.tokens

  answer_other : (o : Outcome Asked) → let a = answer_for s o in a.session.others ≡ other_after a.verdict a.header.kind s.others
  answer_other (refused k e) = refl
  answer_other (got a e) = kind_other a.frame.header.kind a.frame.body.tokens.tokens

  answer_fits : (o : Outcome Asked) → session_fits s ≡ true → ((a : Asked) (e : ℕ) → o ≡ got a e → stays_counted a.frame.header.kind s ≡ true) → session_fits (answer_for s o).session ≡ true
  answer_fits (refused k e) h f = h
  answer_fits (got a e) h f = fits_after a.frame.header.kind s h (f a e refl)

-- a turn hands on the session of its answer
pub after_session : (st : State) (v : Verdict) (kind : Kind) (s : Session) (new : List ℕ) → (handed_on st v kind s new).session ≡ s
after_session st (Refused k e) kind s new = refl
after_session st (Accepted t) Intra s new = refl
after_session st (Accepted t) Inter s new = refl
after_session st (Accepted t) Repeat s new = refl

-- ---- lists of calls
module _ (way : Way) where
  abbrev next : State → Call → State
  next st c = (turn st c (by_rules way st c)).after

  next_session : (st : State) (c : Call) → (next st c).session ≡ (answer_for st.session (outcome_of st c)).session
  unfolding by_rules
  next_session st c = let d = by_rules way st c in after_session st d.answer.verdict d.answer.header.kind d.answer.session d.new

  keys : (st : State) (calls : List Call) → (session_behind st.session (turns (by_rules way) st calls)).key_frames ≡ key_frames st.session.key_frames (turns (by_rules way) st calls)
  unfolding turns session_behind key_frames by_rules
  keys st [] = refl
  keys st (c ∷ cs) =
      keys (next st c) cs
      ∙ ap (λ (n : ℕ). key_frames n (turns (by_rules way) (next st c) cs)) (ap (λ (s : Session). s.key_frames) (next_session st c) ∙ answer_key st.session (outcome_of st c))

  others : (st : State) (calls : List Call) → (session_behind st.session (turns (by_rules way) st calls)).others ≡ others_since st.session.others (turns (by_rules way) st calls)
  unfolding turns session_behind others_since by_rules
  others st [] = refl
  others st (c ∷ cs) =
      others (next st c) cs
      ∙ ap (λ (n : ℕ). others_since n (turns (by_rules way) (next st c) cs)) (ap (λ (s : Session). s.others) (next_session st c) ∙ answer_other st.session (outcome_of st c))

  fits : (st : State) (calls : List Call) → session_fits st.session ≡ true → session_fits (session_behind st.session (turns (by_rules way) st calls)) ≡ true
  unfolding turns session_behind
  fits st [] h = h
  fits st (c ∷ cs) h =
      fits (next st c) cs (ap session_fits (next_session st c) ∙ answer_fits st.session (outcome_of st c) h (λ a e r. (outcome_got st c r).1))

pub numbers_count : NumbersCount
numbers_count way st calls = (keys way st calls, others way st calls)

pub sessions_fit : SessionsFit
sessions_fit = fits

-- ---- 17
module _ (st : State) (c : Call) where
  abbrev Found : Type 0
  Found = (session_fits st.session ≡ true) × (lengths_hold st c ≡ true) × Uncounted st.session c.table c.packet

  given_17 : Found → outcome_of st c ≡ refused 17 0
  unfolding outcome_of read
  given_17 (f, l, u) = rw (f, l, u.held, u.reads, u.passed)

  found_17 : (e : ℕ) → outcome_of st c ≡ refused 17 e → Found
  unfolding outcome_of among
  found_17 e r = go (session_fits st.session) (lengths_hold st c) refl refl r
    where
      within : among packet_numbers 17 ≡ true → Found
      within h = absurd (false≢true h)

      go : (b d : Bool) → session_fits st.session ≡ b → lengths_hold st c ≡ d → choose b (choose d (read st.session c.table c.packet) (refused 1 0)) (refused 8 0) ≡ refused 17 e → Found
      go false d f l q = let z : ◌≡◌ {A = ℕ} 8 17 = cc in absurd (omega arith)
      go true false f l q = let z : ◌≡◌ {A = ℕ} 1 17 = cc in absurd (omega arith)
      go true true f l q =
          read_refused st.session c.packet c.table (λ z y. absurd (omega arith)) (λ z y u. (f, l, u))
          (λ setup h.
          within (packet_refuses (format st.session) st.session.fields.fmbw st.session.fields.fmbh setup.trees st.session.references c.packet 17 e h))
          q

pub seventeen_exactly : SeventeenExactly
seventeen_exactly st c = (given_17 st c, found_17 st c)

-- Calls of `wedgepetal_frame` one after the other are the turns of demand 3. Assumes nothing.
use Prim.Native.Nat.{ℕ}
use mathlib.Core.Path.{◌≡◌, refl, sym, ap, ◌∙◌}
use mathlib.Core.List.{List, [], ◌∷◌}
use lib.ListN.{length, get_or, set, length-set}
use borrow.Author.Tests.{eq-eqb}
use Rattle.bitstream.specs.Reading.{Outcome, got, refused}
use Rattle.headers.specs.declared.Session.{Session}
use Rattle.frame_header.specs.declared.Header.{Header}
use Rattle.ways.specs.Ways.{first_way}
use Rattle.reading.specs.declared.Verdict.{Verdict}
use Rattle.reading.specs.declared.Verdict.TheVariants.{Accepted, Refused}
use Rattle.reading.specs.Answer.{Asked, answer_for}
use Rattle.asked_frame.specs.Answer.{State, Done}
use Rattle.calls.specs.Call.{Call, outcome_of, by_rules}
use Rattle.calls.specs.Demand.{turn, turns}
use Rattle.calls.proofs.KeyFrames.{after_session}
use Rattle.session_list.specs.List.{session_of, lists_number}
use Rattle.frame_c.specs.Face.{FrameReturned, state_of, done_returned, frame_call}
use Rattle.frame_lists.specs.FrameLists.{reference_number, verdict_returned}
use Rattle.frame_c.specs.Turns.{FaceCall, AnswersFit, SameTurns, FaceTurns}
use Rattle.frame_c.proofs.Calls.{session_handed}

-- a frame call on lists of the published lengths does what the rules say
pub frame_rules : (session old golden previous : List ℕ) (c : Call) → length session ≡ 19 → length old ≡ 8 → frame_call session old golden previous c ≡ done_returned session (by_rules first_way (state_of session golden previous) c)
unfolding frame_call lists_number
frame_rules session old golden previous c h k = rw (eq-eqb _ _ h, eq-eqb _ _ k)

-- the session's list after a call says the session that the rules hand on, and has its length
module _ (l : List ℕ) (h : length l ≡ 19) where
  answer_handed : (o : Outcome Asked) → let a = answer_for (session_of l) o in session_of (verdict_returned l a.header a.session a.verdict).lent ≡ a.session
  answer_handed (refused k e) = refl
  answer_handed (got a e) = session_handed l h a.frame.header.kind

  returned_length : (x : Header) (s : Session) (v : Verdict) → length (verdict_returned l x s v).lent ≡ 19
  returned_length x s (Accepted t) =
      let a = set l 16 (reference_number x.kind (get_or l 16 0)) in
      length-set (set a 17 s.key_frames) 18 s.others ∙ length-set a 17 s.key_frames ∙ length-set l 16 (reference_number x.kind (get_or l 16 0)) ∙ h
  returned_length x s (Refused k e) = h

module _ (l golden previous : List ℕ) (h : length l ≡ 19) (c : FaceCall) (k : length c.answer ≡ 8) where
  abbrev st : State
  st = state_of l golden previous

  abbrev d : Done
  d = by_rules first_way st c.rules

  abbrev r : FrameReturned
  r = frame_call l c.answer golden previous c.rules

  same : r ≡ done_returned l d
  same = frame_rules l c.answer golden previous c.rules h k

  list_says : session_of r.answered.lent ≡ (turn st c.rules d).after.session
  unfolding by_rules
  list_says =
      ap (λ (x : FrameReturned). session_of x.answered.lent) same ∙ answer_handed l h (outcome_of st c.rules)
      ∙ sym (after_session st d.answer.verdict d.answer.header.kind d.answer.session d.new)

  list_long : length r.answered.lent ≡ 19
  list_long = ap (λ (x : FrameReturned). length x.answered.lent) same ∙ returned_length l h d.answer.header d.answer.session d.answer.verdict

-- a state is its session, golden and previous
state_is : (t : State) (session : List ℕ) → session_of session ≡ t.session → state_of session t.golden t.previous ≡ t
state_is t session e = λ i. record { session = e i; golden = t.golden; previous = t.previous }

pub face_turns : FaceTurns
unfolding SameTurns turns AnswersFit
face_turns session golden previous h [] a = tt
face_turns session golden previous h (c ∷ cs) a =
    let next = (turn (st session golden previous h c a.0) c.rules (d session golden previous h c a.0)).after in
    let says = list_says session golden previous h c a.0 in
    let list = (r session golden previous h c a.0).answered.lent in (
      same session golden previous h c a.0,
      says,
      rw (state_is next list says) at (face_turns list next.golden next.previous (list_long session golden previous h c a.0) cs a.1),
    )

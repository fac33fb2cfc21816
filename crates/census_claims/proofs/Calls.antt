-- A recording adds what frame calls of its packets add. Assumes nothing.
use Prim.Native.Nat.{ℕ}
use mathlib.Core.Path.{◌≡◌, refl, ap, ◌∙◌}
use mathlib.Core.List.{List, [], ◌∷◌}
use Rattle.bitstream.specs.Reading.{refused, choose}
use Rattle.headers.specs.declared.Session.{Session}
use Rattle.headers.specs.Fits.{session_fits}
use Rattle.frame_header.specs.declared.Kind.{Kind}
use Rattle.frame_header.specs.declared.Kind.TheVariants.{Intra, Inter, Repeat}
use Rattle.reading.specs.declared.Verdict.{Verdict}
use Rattle.reading.specs.declared.Verdict.TheVariants.{Accepted, Refused}
use Rattle.reading.specs.Answer.{read, answer_for}
use Rattle.asked_frame.specs.Answer.{State, Way, state}
use Rattle.calls.specs.Call.{Call, call, lengths_hold, outcome_of, by_rules}
use Rattle.calls.specs.Demand.{turn, turns, handed_on}
use Rattle.report.specs.Report.{plus}
use Rattle.census_packets.specs.Recording.{Lent, outcome_lent, packet_adds, packets_add}
use Rattle.census_claims.specs.Calls.{turns_add, Alike, AsCalls}

handed_session : (st : State) (v : Verdict) (kind : Kind) (s : Session) (new : List ℕ) → (handed_on st v kind s new).session ≡ s
handed_session st (Refused k e) kind s new = refl
handed_session st (Accepted t) Intra s new = refl
handed_session st (Accepted t) Inter s new = refl
handed_session st (Accepted t) Repeat s new = refl

module _ (l : Lent) (table : List ℕ) where
  outcome_same : (st : State) (c : Call) (p : List ℕ) → c.packet ≡ p → c.table ≡ table
      → lengths_hold st c ≡ lengths_hold (state st.session l.golden l.previous) (call p table l.memory l.new) → outcome_of st c ≡ outcome_lent l table st.session p
  unfolding outcome_of
  outcome_same st c p ep et eh = λ i. choose (session_fits st.session) (choose (eh i) (read st.session (et i) (ep i)) (refused 1 0)) (refused 8 0)

  module _ (way : Way) where
    pub calls_add : (st : State) (cs : List Call) (ps : List (List ℕ)) → Alike l table (turns (by_rules way) st cs) ps
        → turns_add (turns (by_rules way) st cs) ≡ packets_add (outcome_lent l table) st.session ps
    unfolding turns turns_add packets_add Alike by_rules
    calls_add st [] [] h = refl
    calls_add st [] (p ∷ ps) h = absurd h
    calls_add st (c ∷ cs) [] h = absurd h
    calls_add st (c ∷ cs) (p ∷ ps) h =
        let e = outcome_same st c p h.0 h.1 h.2 in
        let d = by_rules way st c in
        let t = turn st c d in
        let es : t.after.session ≡ (answer_for st.session (outcome_of st c)).session = handed_session st d.answer.verdict d.answer.header.kind d.answer.session d.new in
        ap (plus (packet_adds st.session (outcome_of st c))) (calls_add t.after cs ps h.3 ∙ ap (λ (s : Session). packets_add (outcome_lent l table) s ps) es)
        ∙ (λ i. plus (packet_adds st.session (e i)) (packets_add (outcome_lent l table) (answer_for st.session (e i)).session ps))

pub as_calls : AsCalls
as_calls l table way st cs ps h = calls_add l table way st cs ps h

-- The number of tokens that a frame answers is that of the reading rules, and bounded by the coded blocks. Assumes nothing.
use Prim.Native.Nat.{ℕ}
use mathlib.Core.Path.{◌≡◌, refl, sym, ap, ◌∙◌}
use mathlib.Core.Bool.{Bool, true, false}
use Rattle.bitstream.specs.Reading.{Outcome, got, refused, choose}
use Rattle.bitstream.proofs.Fields.{no_mix}
use Rattle.headers.specs.Fits.{session_fits}
use Rattle.headers.specs.Sizes.{format}
use Rattle.frame_packet.specs.Frame.{Frame, frame_packet}
use Rattle.frame_packet.proofs.Fits.{packet_fits}
use Rattle.frame_packet.proofs.Fits.{packet_repeat}
use Rattle.frame_packet.proofs.Examples.{ones_all}
use Rattle.reading.specs.Answer.{Asked, stays_counted, read, answer_for}
use Rattle.reading.proofs.Places.{outcome_by, read_got}
use Rattle.asked_frame.specs.Answer.{State}
use Rattle.calls.specs.Call.{Call, lengths_hold, outcome_of, by_rules}
use Rattle.calls.specs.Tokens.{TokensCounted, TokensReached}

-- an accepted call read its packet, and the session's numbers stay
pub outcome_got : (st : State) (c : Call) {a : Asked} {e : ℕ} → outcome_of st c ≡ got a e
    → (outcome_by st.session c.packet a.setup ≡ got a.frame e) × (stays_counted a.frame.header.kind st.session ≡ true)
unfolding outcome_of
outcome_got st c {a} {e} r = read_got st.session c.packet c.table (go (session_fits st.session) (lengths_hold st c) r)
  where
    go : (b d : Bool) → choose b (choose d (read st.session c.table c.packet) (refused 1 0)) (refused 8 0) ≡ got a e → read st.session c.table c.packet ≡ got a e
    go true true q = q
    go true false q = no_mix (sym q)
    go false d q = no_mix (sym q)

pub tokens_counted : TokensCounted
unfolding by_rules
tokens_counted st c a e r =
    let s = st.session in
    let p = (outcome_got st c r).0 in
    let f = packet_fits (format s) s.fields.fmbw s.fields.fmbh a.setup.trees s.references c.packet p in
    record {
      answered = λ way. ap (λ (o : Outcome Asked). (answer_for st.session o).verdict) r;
      bounded = f.body.tokens.tokens;
      coded = f.body.most;
      none = λ z.
          ap (λ (x : Frame). x.body.tokens.tokens)
          (packet_repeat (format s) s.fields.fmbw s.fields.fmbh a.setup.trees s.references (sym (ap (frame_packet (format s) s.fields.fmbw s.fields.fmbh a.setup.trees s.references) z) ∙ p)).0;
    }

pub tokens_reached : TokensReached
tokens_reached = (_, _, ones_all, refl, refl)

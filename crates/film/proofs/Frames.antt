-- Frames that are joined, and those of the calls of a list. Assumes nothing.
use Prim.Native.Nat.{ℕ, zero, suc, ◌+◌, ◌*◌, ◌<◌}
use native.Mathlib.Omega.{arith}
use native.Mathlib.Nat.{add_comm, zero-mul, suc-mul}
use mathlib.Core.Path.{◌≡◌, refl, sym, ap, ◌∙◌, subst}
use mathlib.Core.List.{List, [], ◌∷◌, ◌++◌, map}
use lib.ListN.{length, take, drop, get_or, length-append}
use lib.Seq.{take_at, drop_at, drop-drop}
use Rattle.bitstream.specs.Reading.{Outcome, got, refused}
use Rattle.headers.specs.declared.Session.{Session}
use Rattle.headers.specs.Sizes.{format}
use Rattle.frame_header.specs.declared.Kind.{Kind}
use Rattle.frame_header.specs.declared.Kind.TheVariants.{Intra, Inter, Repeat}
use Rattle.ways.specs.Ways.{first_way}
use Rattle.work_memory.specs.Lengths.{blocks}
use Rattle.reading.specs.declared.Verdict.{Verdict}
use Rattle.reading.specs.declared.Verdict.TheVariants.{Accepted, Refused}
use Rattle.reading.specs.Answer.{Asked, answer_for}
use Rattle.asked_frame.specs.Answer.{State, Done, done, picture, new_by}
use Rattle.calls.specs.Call.{Call, outcome_of, memory_after, by_rules}
use Rattle.calls.specs.Demand.{Turn, turn, turns, handed_on}
use Rattle.output.specs.Output.{part}
use Rattle.shot_packets.proofs.Rules.{blocks_after}
use Rattle.shot_claims.specs.Claims.{answer_of}
use Rattle.film.specs.Film.{with_frame, frames_of, joined, one_if, accepted_in}
use Rattle.film.proofs.Long.{first_long}

-- every frame of a list has b bytes
abbrev pub AllLong : ℕ → List (List ℕ) → Type 0
AllLong b [] = Unit {0}
AllLong b (f ∷ fs) = (length f ≡ b) × AllLong b fs

next_place : (k b : ℕ) → suc k * b ≡ b + k * b
next_place k b = suc-mul k b ∙ add_comm (k * b) b

pub joined_length : (b : ℕ) (fs : List (List ℕ)) → AllLong b fs → length (joined fs) ≡ length fs * b
unfolding joined
joined_length b [] h = sym (zero-mul b)
joined_length b (f ∷ fs) h = length-append f (joined fs) ∙ (λ i. h.0 i + joined_length b fs h.1 i) ∙ sym (next_place (length fs) b)

pub joined_at : (b : ℕ) (fs : List (List ℕ)) → AllLong b fs → (k : ℕ) → k < length fs → part (joined fs) (k * b) b ≡ get_or fs k []
unfolding joined
joined_at b [] h k l = absurd (omega arith)
joined_at b (f ∷ fs) h zero l = ap (λ (n : ℕ). take b (drop n (f ++ joined fs))) (zero-mul b) ∙ take_at f (joined fs) b h.0
joined_at b (f ∷ fs) h (suc k) l =
    ap (λ (n : ℕ). take b (drop n (f ++ joined fs))) (next_place k b)
    ∙ ap (λ (x : List ℕ). take b x) (sym (drop-drop (k * b) b (f ++ joined fs)) ∙ ap (λ (x : List ℕ). drop (k * b) x) (drop_at f (joined fs) b h.0))
    ∙ joined_at b fs h.1 k (omega arith)

-- a frame for each accepted call
pub frames_count : (ts : List Turn) → length (frames_of ts) ≡ accepted_in (map answer_of ts)
unfolding frames_of accepted_in
frames_count [] = refl
frames_count (t ∷ ts) = go t.done.answer.verdict (frames_count ts)
  where
    go : (v : Verdict) → length (frames_of ts) ≡ accepted_in (map answer_of ts) → length (with_frame v t.done.new (frames_of ts)) ≡ one_if v (accepted_in (map answer_of ts))
    go (Accepted n) h = ap suc h
    go (Refused k e) h = h

-- ---- by the rules every frame of a list of calls is as long as the session says
handed_session : (st : State) (v : Verdict) (kind : Kind) (s : Session) (new : List ℕ) → (handed_on st v kind s new).session ≡ s
handed_session st (Refused k e) kind s new = refl
handed_session st (Accepted t) Intra s new = refl
handed_session st (Accepted t) Inter s new = refl
handed_session st (Accepted t) Repeat s new = refl

module _ (c : Call) (cs : List Call) (rest : (st : State) → AllLong (64 * blocks st.session) (frames_of (turns (by_rules first_way) st cs))) (st : State) where
  abbrev left : Outcome Asked → Done
  left o = done (answer_for st.session o) (new_by first_way st c.new o) (memory_after st c)

  abbrev following : Done → List (List ℕ)
  following d = frames_of (turns (by_rules first_way) (turn st c d).after cs)

  one_long : (o : Outcome Asked) → AllLong (64 * blocks st.session) (with_frame (left o).answer.verdict (left o).new (following (left o)))
  one_long (refused k e) = rest (turn st c (left (refused k e))).after
  one_long (got a e) =
      let s = st.session in
      let d = left (got a e) in
      let kind = a.frame.header.kind in
      let same = ap blocks (handed_session st d.answer.verdict d.answer.header.kind d.answer.session d.new) ∙ blocks_after kind s in (
        first_long (format s) s.fields.fmbw s.fields.fmbh (picture s a st.golden st.previous) st.previous,
        subst (λ (n : ℕ). AllLong (64 * n) (following d)) same (rest (turn st c d).after),
      )

pub all_long : (st : State) (cs : List Call) → AllLong (64 * blocks st.session) (frames_of (turns (by_rules first_way) st cs))
unfolding turns frames_of by_rules
all_long st [] = tt
all_long st (c ∷ cs) = one_long c cs (λ st'. all_long st' cs) st (outcome_of st c)

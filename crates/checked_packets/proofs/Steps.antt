-- One packet more. Assumes nothing.
use Prim.Native.Nat.{ℕ, zero, suc}
use native.Mathlib.Omega.{arith}
use mathlib.Core.Path.{◌≡◌, refl, sym, ap, ◌∙◌}
use mathlib.Core.List.{List, [], ◌∷◌, ◌++◌}
use lib.ListN.{length}
use Rattle.headers.specs.declared.Session.{Session}
use Rattle.frame_header.specs.declared.Kind.{Kind}
use Rattle.frame_header.specs.declared.Kind.TheVariants.{Intra, Inter, Repeat}
use Rattle.work_memory.specs.Memory.{Memory}
use Rattle.reading.specs.declared.FrameAnswer.{FrameAnswer}
use Rattle.reading.specs.declared.Verdict.{Verdict}
use Rattle.reading.specs.declared.Verdict.TheVariants.{Accepted, Refused}
use Rattle.asked_frame.specs.Answer.{State, Done}
use Rattle.calls.specs.Call.{Call}
use Rattle.calls.specs.Demand.{handed_on}
use Rattle.buffer_names.specs.declared.Names.{Names}
use Rattle.buffer_names.specs.Names.{Sound}
use Rattle.stream_numbers.specs.declared.Numbers.{Numbers}
use Rattle.frame_into.specs.Buffers.{buffer_of}
use Rattle.shot_packets.specs.Play.{Shot, shot, state_of, call_of, after}
use Rattle.shot_packets.proofs.Rules.{state_handed}
use Rattle.frame_into.proofs.Lent.{big}
use Rattle.watching.specs.declared.Watched.{Watched}
use Rattle.watching.specs.Watch.{watched}
use Rattle.checked_packets.specs.Watch.{watched_all}

-- ---- the buffer of a name
module _ (x y z : List ℕ) where
  pub buffer_first : (k : ℕ) → k ≡ 0 → x ≡ buffer_of (x ∷ y ∷ z ∷ []) k
  buffer_first k e = ap (buffer_of (x ∷ y ∷ z ∷ [])) (sym e)

  pub buffer_third : (k : ℕ) → k ≡ 2 → z ≡ buffer_of (x ∷ y ∷ z ∷ []) k
  buffer_third k e = ap (buffer_of (x ∷ y ∷ z ∷ [])) (sym e)

  pub buffer_second : (k : ℕ) → (k ≡ 0 → ⊥) → (k ≡ 2 → ⊥) → y ≡ buffer_of (x ∷ y ∷ z ∷ []) k
  buffer_second zero a b = absurd (a refl)
  buffer_second (suc zero) a b = refl
  buffer_second (suc (suc zero)) a b = absurd (b refl)
  buffer_second (suc (suc (suc k))) a b = sym (big x y z (suc (suc (suc k))) (omega arith))

-- ---- a step
module _ (n : Numbers) (file : List ℕ) (w : Watched) where
  -- the frame that is previous after a packet is the new one, or does not matter
  pub watched_handed : (st : State) (v : Verdict) (kind : Kind) (s : Session) (new : List ℕ) → watched n file w v (handed_on st v kind s new).previous ≡ watched n file w v new
  unfolding watched
  watched_handed st (Refused k e) kind s new = refl
  watched_handed st (Accepted t) Intra s new = refl
  watched_handed st (Accepted t) Inter s new = refl
  watched_handed st (Accepted t) Repeat s new = refl

  -- a step, as the program sees it: by the answer and the buffers that are left
  abbrev first_of : List FrameAnswer → FrameAnswer → FrameAnswer
  first_of [] b = b
  first_of (a ∷ l) b = a

  pub watched_left : (h : Shot) → length h.planes ≡ 3 → Sound h.session h.names → h.answers ≡ [] → (d : Done) (a : FrameAnswer) (planes : List (List ℕ)) (names : Names) (m : Memory)
      → shot a.session planes names m (a ∷ []) ≡ after h d → watched n file w a.verdict (buffer_of planes names.previous) ≡ watched n file w d.answer.verdict d.new
  watched_left h three sound none d a planes names m e =
      let l : a ≡ d.answer = ap (λ (t : Shot). first_of t.answers d.answer) e ∙ ap (λ (l : List FrameAnswer). first_of (l ++ (d.answer ∷ [])) d.answer) none in
      let p : buffer_of planes names.previous ≡ (handed_on (state_of h) d.answer.verdict d.answer.header.kind d.answer.session d.new).previous =
      ap (λ (t : Shot). (state_of t).previous) e ∙ ap (λ (st : State). st.previous) (state_handed h three sound d) in
      (λ i. watched n file w (l i).verdict (p i)) ∙ watched_handed (state_of h) d.answer.verdict d.answer.header.kind d.answer.session d.new

-- ---- all packets: the answers before do not matter
module _ (does : State → Call → Done) (n : Numbers) (file table : List ℕ) where
  pub any_answers : (w : Watched) (s : Session) (planes : List (List ℕ)) (names : Names) (m : Memory) (was bs : List FrameAnswer) (ps : List (List ℕ))
      → watched_all does n file table w (shot s planes names m was) ps ≡ watched_all does n file table w (shot s planes names m bs) ps
  unfolding watched_all
  any_answers w s planes names m was bs [] = refl
  any_answers w s planes names m was bs (p ∷ ps) =
      let h = shot s planes names m was in
      let d = does (state_of h) (call_of table h p) in
      let t = after h d in
      any_answers (watched n file w d.answer.verdict d.new) t.session t.planes t.names t.memory (was ++ (d.answer ∷ [])) (bs ++ (d.answer ∷ [])) ps

-- Three packets, the second of them refused: two frames. By computation, for any frames. Assumes nothing.
use Prim.Native.Nat.{ℕ}
use mathlib.Core.Path.{◌≡◌, refl}
use mathlib.Core.List.{List, [], ◌∷◌}
use Rattle.frame_header.specs.declared.Header.{Header}
use Rattle.work_memory.specs.Memory.{Memory}
use Rattle.reading.specs.declared.Verdict.{Verdict}
use Rattle.reading.specs.declared.Verdict.TheVariants.{Accepted, Refused}
use Rattle.asked_frame.specs.Answer.{State, Done, done}
use Rattle.calls.specs.Call.{Call, call}
use Rattle.calls.specs.Demand.{turns}
use Rattle.film.specs.Film.{frames_of}

module _ (h : Header) where
  -- a decoder that refuses the empty packet alone, and takes the lent buffer for the frame
  judged : List ℕ → Verdict
  judged [] = Refused 9 0
  judged (b ∷ p) = Accepted b

  toy : State → Call → Done
  toy st c = done (record { verdict = judged c.packet; header = h; session = st.session }) c.new c.memory

  two_frames : (st : State) (table first second third : List ℕ) (m : Memory)
      → frames_of (turns toy st (call (1 ∷ []) table m first ∷ call [] table m second ∷ call (7 ∷ []) table m third ∷ [])) ≡ first ∷ third ∷ []
  unfolding frames_of turns toy judged
  two_frames st table first second third m = refl

-- What is handed on from call to call, by computation: an intra frame, a refusal, an inter frame, a refusal, a repeat, an intra frame.
-- Assumes nothing.
use Prim.Native.Nat.{ℕ}
use mathlib.Core.Path.{◌≡◌, refl}
use mathlib.Core.Bool.{false}
use mathlib.Core.List.{List, [], ◌∷◌, map}
use lib.Dec.{eqb}
use lib.ListN.{get_or}
use Rattle.bitstream.specs.Reading.{choose}
use Rattle.headers.specs.declared.Session.{Session}
use Rattle.frame_header.specs.declared.Kind.{Kind}
use Rattle.frame_header.specs.declared.Kind.TheVariants.{Intra, Inter, Repeat}
use Rattle.reading.specs.declared.Verdict.{Verdict}
use Rattle.reading.specs.declared.Verdict.TheVariants.{Accepted, Refused}
use Rattle.work_memory.specs.Memory.{Memory}
use Rattle.reading.specs.Answer.{session_after}
use Rattle.asked_frame.specs.Answer.{State, Done, state}
use Rattle.calls.specs.Call.{Call}
use Rattle.calls.specs.Demand.{Turn, turns}

module _ (memory : Memory) where
  session : Session
  session = record {
    fields = record {
      vrev = 0;
      fmbw = 1;
      fmbh = 1;
      picw = 16;
      pich = 16;
      picx = 0;
      picy = 0;
      frn = 1;
      frd = 1;
      parn = 0;
      pard = 0;
      cs = 0;
      nombr = 0;
      qual = 0;
      kfgshift = 0;
      pf = 0;
    };
    references = false;
    key_frames = 0;
    others = 0;
  }

  -- a call that brings the number n as packet and as new
  abbrev call : ℕ → Call
  call n = record { packet = n ∷ []; table = []; memory = memory; new = n ∷ [] }

  -- calls 1 and 6 are intra frames, 3 is an inter frame, 5 a repeat, 2 and 4 are refused; an accepted one leaves ten times the number in new
  abbrev answered : Verdict → Kind → Session → List ℕ → Done
  answered v kind s new = record { answer = record { verdict = v; header = record { kind = kind; qis = 0 ∷ 0 ∷ 0 ∷ []; count = 0 }; session = s }; new = new; memory = memory }

  does : State → Call → Done
  does st c =
      let n = get_or c.packet 0 0 in
      choose (eqb n 1) (answered (Accepted 0) Intra (session_after Intra st.session) (10 ∷ []))
      (choose (eqb n 3) (answered (Accepted 0) Inter st.session (30 ∷ []))
      (choose (eqb n 5) (answered (Accepted 0) Repeat st.session st.previous)
      (choose (eqb n 6) (answered (Accepted 0) Intra (session_after Intra st.session) (60 ∷ []))
      (answered (Refused 4 7) Repeat st.session c.new))))

  -- golden, previous and new after each call
  after_each : Turn → List (List ℕ)
  after_each t = t.after.golden ∷ t.after.previous ∷ t.done.new ∷ []

  handed_on : map after_each (turns does (state session (7 ∷ []) (8 ∷ [])) (call 1 ∷ call 2 ∷ call 3 ∷ call 4 ∷ call 5 ∷ call 6 ∷ []))
      ≡ ((10 ∷ []) ∷ (10 ∷ []) ∷ (10 ∷ []) ∷ [])
      ∷ ((10 ∷ []) ∷ (10 ∷ []) ∷ (2 ∷ []) ∷ [])
      ∷ ((10 ∷ []) ∷ (30 ∷ []) ∷ (30 ∷ []) ∷ [])
      ∷ ((10 ∷ []) ∷ (30 ∷ []) ∷ (4 ∷ []) ∷ [])
      ∷ ((10 ∷ []) ∷ (30 ∷ []) ∷ (30 ∷ []) ∷ [])
      ∷ ((60 ∷ []) ∷ (60 ∷ []) ∷ (60 ∷ []) ∷ [])
      ∷ []
  unfolding turns after_each does
  handed_on = refl

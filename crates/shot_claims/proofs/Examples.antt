-- Nine packets by computation: intra, inter, inter, repeat, refused, inter, intra, inter, inter, from no references. Assumes nothing.
use Prim.Native.Nat.{ℕ, ◌+◌}
use mathlib.Core.Path.{◌≡◌, refl}
use mathlib.Core.Bool.{false}
use mathlib.Core.List.{List, [], ◌∷◌, map}
use lib.Dec.{eqb}
use lib.ListN.{get_or}
use Rattle.bitstream.specs.Reading.{choose}
use Rattle.headers.specs.declared.Session.{Session}
use Rattle.frame_header.specs.declared.Kind.{Kind}
use Rattle.frame_header.specs.declared.Kind.TheVariants.{Intra, Inter, Repeat}
use Rattle.reading.specs.declared.Verdict.{Verdict}
use Rattle.reading.specs.declared.Verdict.TheVariants.{Accepted, Refused}
use Rattle.work_memory.specs.Memory.{Memory}
use Rattle.reading.specs.Answer.{session_after}
use Rattle.asked_frame.specs.Answer.{State, Done}
use Rattle.calls.specs.Call.{Call}
use Rattle.buffer_names.specs.Names.{names, free}
use Rattle.shot_packets.specs.Play.{Shot, shot, one_more, played}
use Rattle.packet_list.specs.Packets.{packets_in}

module _ (memory : Memory) where
  session : Session
  session = record {
    fields = record {
      vrev = 0;
      fmbw = 1;
      fmbh = 1;
      picw = 16;
      pich = 16;
      picx = 0;
      picy = 0;
      frn = 1;
      frd = 1;
      parn = 0;
      pard = 0;
      cs = 0;
      nombr = 0;
      qual = 0;
      kfgshift = 0;
      pf = 0;
    };
    references = false;
    key_frames = 0;
    others = 0;
  }

  abbrev answered : Verdict → Kind → Session → List ℕ → Done
  answered v kind s new = record { answer = record { verdict = v; header = record { kind = kind; qis = 0 ∷ 0 ∷ 0 ∷ []; count = 0 }; session = s }; new = new; memory = memory }

  -- a packet n below 10 is an intra frame that is n, 10 is a refused one, an empty one a repeat; any other is an inter frame: n, with golden and previous
  does : State → Call → Done
  does st c = choice c.packet
    where
      choice : List ℕ → Done
      choice [] = answered (Accepted 0) Repeat st.session st.previous
      choice (n ∷ rest) =
          choose (eqb n 10) (answered (Refused 4 0) Repeat st.session c.new)
          (choose (eqb n 1) (answered (Accepted 0) Intra (session_after Intra st.session) (n ∷ []))
          (choose (eqb n 7) (answered (Accepted 0) Intra (session_after Intra st.session) (n ∷ []))
          (answered (Accepted 0) Inter st.session (n ∷ get_or st.golden 0 0 ∷ get_or st.previous 0 0 ∷ []))))

  -- the shot after each packet
  each : Shot → List (List ℕ) → List Shot
  each h [] = []
  each h (p ∷ ps) = let n = one_more does [] h p in n ∷ each n ps

  start : Shot
  start = shot session ((90 ∷ []) ∷ (91 ∷ []) ∷ (92 ∷ []) ∷ []) (names 3 3) memory []

  packets : List (List ℕ)
  packets = packets_in (1 ∷ 1 ∷ 1 ∷ 0 ∷ 1 ∷ 1 ∷ 1 ∷ 1 ∷ 1 ∷ []) (1 ∷ 22 ∷ 23 ∷ 10 ∷ 26 ∷ 7 ∷ 28 ∷ 29 ∷ 55 ∷ [])

  abbrev both : Shot → List ℕ
  both h = h.names.golden ∷ h.names.previous ∷ []

  -- the names
  nine_names : map both (each start packets)
      ≡ (0 ∷ 0 ∷ []) ∷ (0 ∷ 1 ∷ []) ∷ (0 ∷ 2 ∷ []) ∷ (0 ∷ 1 ∷ []) ∷ (0 ∷ 1 ∷ []) ∷ (0 ∷ 2 ∷ []) ∷ (1 ∷ 1 ∷ []) ∷ (1 ∷ 0 ∷ []) ∷ (1 ∷ 2 ∷ []) ∷ []
  unfolding each packets packets_in one_more start does free
  nine_names = refl

  -- and the buffers at last: the last frame was made of the second intra frame and the inter frame behind it
  nine_planes : (played does [] start packets).planes ≡ (28 ∷ 7 ∷ 7 ∷ []) ∷ (7 ∷ []) ∷ (29 ∷ 7 ∷ 28 ∷ []) ∷ []
  unfolding packets packets_in played one_more start does free
  nine_planes = refl

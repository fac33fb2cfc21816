-- The film of a list of frame calls, or of a shot: the stream that request 1's writer writes for it. "One frame per accepted packet."
use Rattle.std.specs.Prelude.{ℕ, suc, ◌≤◌, ◌<◌, ◌≡◌, true, List, [], ◌∷◌, ◌++◌, map, length, get_or}
use Rattle.headers.specs.declared.Session.{Session}
use Rattle.headers.specs.Fits.{session_fits}
use Rattle.ways.specs.Ways.{first_way}
use Rattle.reading.specs.declared.FrameAnswer.{FrameAnswer}
use Rattle.reading.specs.declared.Verdict.{Verdict}
use Rattle.reading.specs.declared.Verdict.TheVariants.{Accepted, Refused}
use Rattle.asked_frame.specs.Answer.{State}
use Rattle.calls.specs.Call.{Call, by_rules}
use Rattle.calls.specs.Demand.{Turn, turns}
use Rattle.output.specs.Output.{gives}
use Rattle.stream_numbers.specs.Numbers.{numbers_of}
use Rattle.y4m.specs.Stream.{frame_of, stream_text, stream_for}
use Rattle.y4m.specs.Film.{holds, film_in}
use Rattle.packet_list.specs.Packets.{packets_in}
use Rattle.shot_packets.specs.Play.{state_of, played}
use Rattle.opening.specs.Call.{ShotCall, shot_number}
use Rattle.shot.specs.Call.{start_of}
use Rattle.shot_claims.specs.Claims.{calls_of, answer_of}

-- an accepted call gives its new frame, in front of those that follow; a refused one gives none
abbrev pub with_frame : Verdict → (new : List ℕ) → List (List ℕ) → List (List ℕ)
with_frame (Accepted t) new frames = new ∷ frames
with_frame (Refused k e) new frames = frames

-- the frames of a list of calls, in order
unfoldable pub frames_of : List Turn → List (List ℕ)
frames_of [] = []
frames_of (t ∷ ts) = with_frame t.done.answer.verdict t.done.new (frames_of ts)

-- "frame after frame in one buffer"
unfoldable pub joined : List (List ℕ) → List ℕ
joined [] = []
joined (f ∷ fs) = f ++ joined fs

-- what the writer of streams writes for these frames
unfoldable pub film_of : Session → List Turn → List ℕ
film_of s ts = stream_text (numbers_of s) (joined (frames_of ts)) (length (frames_of ts))

-- how many answers accept their packet
abbrev pub one_if : Verdict → ℕ → ℕ
one_if (Accepted t) n = suc n
one_if (Refused k e) n = n

unfoldable pub accepted_in : List FrameAnswer → ℕ
accepted_in [] = 0
accepted_in (a ∷ rest) = one_if a.verdict (accepted_in rest)

-- of turns that begin with the session s
pub record FilmIs (s : Session) (ts : List Turn) : Type 0 where
  -- "One frame per accepted packet", none for a refused one
  pub one_each : length (frames_of ts) ≡ accepted_in (map answer_of ts)
  -- frame k of the film is what the k-th accepted call left in new
  pub each : (k : ℕ) → k < length (frames_of ts) → frame_of (numbers_of s) (joined (frames_of ts)) k ≡ get_or (frames_of ts) k []
  -- the writer, lent these frames and enough room, writes the film
  pub written : (room : ℕ) → length (film_of s ts) ≤ room → stream_for s (joined (frames_of ts)) room ≡ gives (film_of s ts)
  -- the reader, lent enough room, gives back the header's numbers, how many frames, and every plane
  pub back : (room : ℕ) → length (joined (frames_of ts)) ≤ room → film_in (film_of s ts) room ≡ holds (numbers_of s) (length (frames_of ts)) (joined (frames_of ts))

-- of every list of calls, from every session that passes 8, whatever golden and previous hold
abbrev pub FilmsHold : Type 0
FilmsHold = (st : State) (calls : List Call) → session_fits st.session ≡ true → FilmIs st.session (turns (by_rules first_way) st calls)

-- of every shot that is not refused: its film has a frame for each accepted one of the answers that the call leaves
abbrev pub ShotFilmed : Type 0
ShotFilmed = (c : ShotCall) → shot_number c ≡ 0 → length c.planes ≡ 3
    → let ps = packets_in c.lengths c.joined in
    let ts = turns (by_rules first_way) (state_of (start_of c)) (calls_of (by_rules first_way) c.table (start_of c) ps) in
    FilmIs c.session ts × (length (frames_of ts) ≡ accepted_in (played (by_rules first_way) c.table (start_of c) ps).answers)

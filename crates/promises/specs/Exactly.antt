-- The reader and the writer of streams together, over the definitions of the two calls.
use Rattle.std.specs.Prelude.{ℕ, ◌≡◌, ◌*◌, ◌≤◌, true, List, length}
use Rattle.bitstream.specs.Numbers.{other_stream}
use Rattle.headers.specs.declared.Session.{Session}
use Rattle.headers.specs.Fits.{session_fits}
use Rattle.output.specs.Output.{gives}
use Rattle.stream_numbers.specs.declared.Numbers.{Numbers}
use Rattle.stream_numbers.specs.Numbers.{numbers_of}
use Rattle.y4m.specs.Stream.{frame_bytes, count_of, stream_for}
use Rattle.y4m.specs.Film.{holds, refused, film_in}

-- the session and the frames of which the writer gives t: whole frames of a session that passes 8
pub record WrittenFrom (t : List ℕ) (n : Numbers) (count : ℕ) (planes : List ℕ) : Type 0 where
  pub session : Session
  pub passes : session_fits session ≡ true
  pub numbers : numbers_of session ≡ n
  pub whole : length planes ≡ count * frame_bytes n
  pub given : (room : ℕ) → length t ≤ room → stream_for session planes room ≡ gives t

-- "A reader accepts exactly what this writer writes and gives the same planes"; "any other stream is new number 21"
pub record AcceptsExactly (t : List ℕ) : Type 0 where
  pub written : (s : Session) (frames : List ℕ) (room plane_room : ℕ) → stream_for s frames room ≡ gives t → length frames ≤ plane_room
      → film_in t plane_room ≡ holds (numbers_of s) (count_of (numbers_of s) frames) frames
  pub only : (n : Numbers) (count : ℕ) (planes : List ℕ) (plane_room : ℕ) → film_in t plane_room ≡ holds n count planes → WrittenFrom t n count planes
  pub other : (plane_room : ℕ) → film_in t plane_room ≡ refused other_stream → (s : Session) (frames : List ℕ) (room : ℕ) → stream_for s frames room ≡ gives t → ⊥

-- "A reader accepts exactly what this writer writes and gives the same planes"
use Rattle.std.specs.Prelude.{ℕ, ◌+◌, ◌*◌, ◌/◌, ◌%◌, Bool, ◌&&◌, ◌||◌, List, ◌++◌, eqb, leb, length, take, drop, get_or}
use Rattle.bitstream.specs.Reading.{choose}
use Rattle.bitstream.specs.Numbers.{short_output, other_stream}
use Rattle.geometry.specs.Order.{in_turn}
use Rattle.output.specs.Output.{part}
use Rattle.text.specs.Decimal.{number}
use Rattle.text.specs.Same.{same}
use Rattle.stream_numbers.specs.declared.Numbers.{Numbers}
use Rattle.y4m.specs.declared.FilmAnswer.{FilmAnswer}
use Rattle.y4m.specs.declared.FilmAnswer.TheVariants.{Is, Refused}
use Rattle.y4m.specs.declared.Looked.{Looked}
use Rattle.y4m.specs.declared.Looked.TheVariants.{Frames, Other}
use Rattle.y4m.specs.Stream.{header_text, frame_bytes, rows_of}
use Rattle.frame_marks.specs.Marks.{marked}

-- ---- the header's numbers
-- what the header of a stream says, if it is one: the numbers by their places, and C by its third letter
unfoldable pub format_in : ℕ → ℕ
format_in letter = choose (eqb letter 48) 0 (choose (eqb letter 50) 2 3)

unfoldable pub numbers_in : List ℕ → Numbers
numbers_in t =
    let w = number (drop 11 t) in
    let h = number (drop 2 w.rest) in
    let frn = number (drop 2 h.rest) in
    let frd = number (drop 1 frn.rest) in
    let parn = number (drop 5 frd.rest) in
    let pard = number (drop 1 parn.rest) in
    record { width = w.value; height = h.value; frn = frn.value; frd = frd.value; parn = parn.value; pard = pard.value; pf = format_in (get_or pard.rest 4 0) }

-- numbers that some session has which passes 8: theorem `some-session`
abbrev pub size_fits : ℕ → Bool
size_fits v = eqb (v % 16) 0 && (leb 16 v && leb v 1048560)

abbrev pub rate_fits : ℕ → Bool
rate_fits v = leb 1 v && leb v 4294967295

abbrev pub aspect_fits : ℕ → ℕ → Bool
aspect_fits a b = (eqb a 0 && eqb b 0) || ((leb 1 a && leb a 16777215) && (leb 1 b && leb b 16777215))

abbrev pub format_fits : ℕ → Bool
format_fits pf = eqb pf 0 || (eqb pf 2 || eqb pf 3)

unfoldable pub numbers_fit : Numbers → Bool
numbers_fit n =
    (size_fits n.width && size_fits n.height)
    && ((rate_fits n.frn && rate_fits n.frd) && (aspect_fits n.parn n.pard && format_fits n.pf))

-- ---- the stream
-- the text begins with the header of these numbers
unfoldable pub is_header : Numbers → List ℕ → Bool
is_header n t = numbers_fit n && same (take (length (header_text n)) t) (header_text n)

-- where its body begins, and 0 if it does not
abbrev pub header_end : Numbers → List ℕ → ℕ
header_end n t = choose (is_header n t) (length (header_text n)) 0

-- what stands behind the header, and how many frames of the right length that is
abbrev pub body_of : Numbers → List ℕ → List ℕ
body_of n t = drop (length (header_text n)) t

abbrev pub step : Numbers → ℕ
step n = 6 + frame_bytes n

abbrev pub frames_of : Numbers → List ℕ → ℕ
frames_of n t = length (body_of n t) / step n

unfoldable pub is_stream_of : Numbers → List ℕ → Bool
is_stream_of n t = is_header n t && (eqb (length (body_of n t) % step n) 0 && marked (step n) (body_of n t) (frames_of n t))

-- what a look at a stream says
abbrev pub looked : Numbers → List ℕ → Looked
looked n t = choose (is_stream_of n t) (Frames (length (header_text n)) (frame_bytes n) (frames_of n t)) Other

-- the planes of frame k, and of all frames, "frame after frame in one buffer"
abbrev pub planes_at : Numbers → List ℕ → ℕ → List ℕ
planes_at n body k = rows_of n (part body (k * step n + 6) (frame_bytes n))

unfoldable pub planes_of : Numbers → List ℕ → ℕ → List ℕ
planes_of n body count = in_turn (planes_at n body) count

-- ---- the reading call: 21, then 14
-- what a stream holds, or the number of a refusal
pub data Holds : Type 0 where
  holds : Numbers → ℕ → List ℕ → Holds
  refused : ℕ → Holds

-- "any other stream is new number 21, then a plane buffer too short is 14"
abbrev pub film_with : Numbers → List ℕ → ℕ → Holds
film_with n t room =
    choose (is_stream_of n t)
    (choose (leb (frames_of n t * frame_bytes n) room) (holds n (frames_of n t) (planes_of n (body_of n t) (frames_of n t))) (refused short_output))
    (refused other_stream)

unfoldable pub film_in : List ℕ → ℕ → Holds
film_in t room = film_with (numbers_in t) t room

-- "the header's numbers and how many frames"
abbrev pub as_film : Holds → FilmAnswer
as_film (holds n k planes) = Is (record { numbers = n; frames = k })
as_film (refused k) = Refused k 0

-- "nothing written" by a refusal; a longer buffer keeps its other bytes
abbrev pub planes_by : Holds → List ℕ → List ℕ
planes_by (holds n k planes) old = planes ++ drop (length planes) old
planes_by (refused k) old = old

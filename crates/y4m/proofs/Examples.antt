-- Worked examples, by computation.
use Prim.Native.Nat.{ℕ}
use mathlib.Core.Path.{◌≡◌, refl}
use mathlib.Core.Bool.{Bool, true, false}
use mathlib.Core.List.{List, [], ◌∷◌, ◌++◌}
use lib.ListN.{length, take, replicate}
use Rattle.geometry.specs.declared.PixelFormat.TheVariants.{Chroma420}
use Rattle.geometry.specs.Order.{in_turn}
use Rattle.geometry.specs.Sizes.{blocks_of, blocks_before, total}
use Rattle.headers.specs.declared.Session.{Session}
use Rattle.headers.specs.Sizes.{format_of}
use Rattle.text.specs.Decimal.{decimal, trimmed, digits, scan}
use Rattle.text.specs.Same.{same}
use Rattle.rows.specs.Rows.{turned}
use Rattle.stream_numbers.specs.declared.Numbers.{Numbers}
use Rattle.stream_numbers.specs.Numbers.{aspect, numbers_of}
use Rattle.y4m.specs.Stream.{format_text, header_text, frame_bytes, plane_rows, frame_rows, frame_text, frames_text, stream_text}
use Rattle.frame_marks.specs.Marks.{frame_line, marked}
use Rattle.y4m.specs.Film.{format_in, numbers_in, numbers_fit, is_header, is_stream_of}

-- the numbers of the request's example
abbrev small : Numbers
small = record { width = 16; height = 16; frn = 25; frd = 1; parn = 0; pard = 0; pf = 0 }

-- "The header for a 16 by 16 4:2:0 stream at 25/1 with PARN and PARD 0 is, whole, `YUV4MPEG2 W16 H16 F25:1 Ip A0:0 C420jpeg` and a line feed"
abbrev small_header : List ℕ
small_header =
    89 ∷ 85 ∷ 86 ∷ 52 ∷ 77 ∷ 80 ∷ 69 ∷ 71 ∷ 50 ∷ 32 ∷ 87 ∷ 49 ∷ 54 ∷ 32 ∷ 72 ∷ 49 ∷ 54 ∷ 32 ∷ 70 ∷ 50 ∷ 53 ∷ 58 ∷ 49
    ∷ 32 ∷ 73 ∷ 112 ∷ 32 ∷ 65 ∷ 48 ∷ 58 ∷ 48 ∷ 32 ∷ 67 ∷ 52 ∷ 50 ∷ 48 ∷ 106 ∷ 112 ∷ 101 ∷ 103 ∷ 10 ∷ []

header : header_text small ≡ small_header
unfolding header_text format_text decimal trimmed digits
header = refl

-- a stream of one frame of it has 41 + 6 + 384 bytes
one_frame : length (stream_text small (replicate 384 7) 1) ≡ 431
unfolding stream_text frames_text frame_text frame_bytes frame_rows plane_rows turned in_turn header_text format_text decimal trimmed digits format_of blocks_of blocks_before total
one_frame = refl

-- a rate is not reduced, and PARN 0 with PARD 7 is `A0:0`: ` F50:2`, ` A0:0`; the other formats
abbrev session : ℕ → Session
session pf = record {
  fields = record { vrev = 1; fmbw = 1; fmbh = 2; picw = 16; pich = 32; picx = 0; picy = 0; frn = 50; frd = 2; parn = 0; pard = 7; cs = 0; nombr = 0; qual = 0; kfgshift = 0; pf = pf };
  references = false;
  key_frames = 0;
  others = 0;
}

not_reduced : numbers_of (session 2) ≡ record { width = 16; height = 32; frn = 50; frd = 2; parn = 0; pard = 0; pf = 2 }
unfolding numbers_of aspect
not_reduced = refl

-- ` F50:2 Ip A0:0 C422` and a line feed, behind `YUV4MPEG2 W16 H32`
format_422 : header_text (numbers_of (session 2))
    ≡ 89 ∷ 85 ∷ 86 ∷ 52 ∷ 77 ∷ 80 ∷ 69 ∷ 71 ∷ 50 ∷ 32 ∷ 87 ∷ 49 ∷ 54 ∷ 32 ∷ 72 ∷ 51 ∷ 50 ∷ 32 ∷ 70 ∷ 53 ∷ 48 ∷ 58 ∷ 50
    ∷ 32 ∷ 73 ∷ 112 ∷ 32 ∷ 65 ∷ 48 ∷ 58 ∷ 48 ∷ 32 ∷ 67 ∷ 52 ∷ 50 ∷ 50 ∷ 10 ∷ []
unfolding numbers_of aspect header_text format_text decimal trimmed digits
format_422 = refl

format_444 : format_text 3 ≡ 32 ∷ 67 ∷ 52 ∷ 52 ∷ 52 ∷ 10 ∷ []
unfolding format_text
format_444 = refl

-- numbered rows: of three rows of two the last comes first
rows_turned : turned 2 3 (1 ∷ 1 ∷ 2 ∷ 2 ∷ 3 ∷ 3 ∷ []) ≡ 3 ∷ 3 ∷ 2 ∷ 2 ∷ 1 ∷ 1 ∷ []
unfolding turned in_turn
rows_turned = refl

-- a 16 by 32 frame, each row of which holds its number from below: the first row of the stream is luma's row 31, and the last chroma's row 0
abbrev row : ℕ → ℕ → List ℕ
row width r = replicate width r

numbered : take 1 (frame_rows Chroma420 1 2 (in_turn (row 16) 32 ++ (in_turn (row 8) 16 ++ in_turn (row 8) 16))) ≡ 31 ∷ []
unfolding frame_rows plane_rows turned in_turn blocks_before total
numbered = refl

-- a header alone is a stream of no frames, and a cut last frame is none: 21
abbrev is_stream : List ℕ → Bool
is_stream t = is_stream_of (numbers_in t) t

header_alone : is_stream small_header ≡ true
unfolding is_stream_of is_header numbers_in numbers_fit format_in scan same marked header_text format_text decimal trimmed digits frame_bytes format_of blocks_of total
header_alone = refl

cut_frame : is_stream (small_header ++ (frame_line ++ replicate 383 7)) ≡ false
unfolding is_stream_of is_header numbers_in numbers_fit format_in scan same marked header_text format_text decimal trimmed digits frame_bytes format_of blocks_of total
cut_frame = refl

-- `W016` is 21
leading_zero : is_stream
    (89 ∷ 85 ∷ 86 ∷ 52 ∷ 77 ∷ 80 ∷ 69 ∷ 71 ∷ 50 ∷ 32 ∷ 87 ∷ 48 ∷ 49 ∷ 54 ∷ 32 ∷ 72 ∷ 49 ∷ 54 ∷ 32 ∷ 70 ∷ 50 ∷ 53 ∷ 58 ∷ 49
    ∷ 32 ∷ 73 ∷ 112 ∷ 32 ∷ 65 ∷ 48 ∷ 58 ∷ 48 ∷ 32 ∷ 67 ∷ 52 ∷ 50 ∷ 48 ∷ 106 ∷ 112 ∷ 101 ∷ 103 ∷ 10 ∷ []) ≡ false
unfolding is_stream_of is_header numbers_in numbers_fit format_in scan same marked header_text format_text decimal trimmed digits frame_bytes format_of blocks_of total
leading_zero = refl

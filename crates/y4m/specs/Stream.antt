-- "a YUV4MPEG2 stream: whole coded frame, top row first, planes in order"
use Rattle.std.specs.Prelude.{ℕ, ◌*◌, ◌/◌, ◌%◌, Bool, List, [], ◌∷◌, ◌++◌, eqb, length}
use Rattle.bitstream.specs.Reading.{choose}
use Rattle.bitstream.specs.Numbers.{wrong_length, not_genuine}
use Rattle.geometry.specs.declared.PixelFormat.{PixelFormat}
use Rattle.geometry.specs.Sizes.{across, up, plane_blocks, blocks_before, blocks_of}
use Rattle.geometry.specs.Order.{in_turn}
use Rattle.headers.specs.declared.Session.{Session}
use Rattle.headers.specs.Fits.{session_fits}
use Rattle.headers.specs.Sizes.{format_of}
use Rattle.output.specs.Output.{Output, refused, within, part}
use Rattle.text.specs.Decimal.{decimal}
use Rattle.rows.specs.Rows.{turned}
use Rattle.stream_numbers.specs.declared.Numbers.{Numbers}
use Rattle.stream_numbers.specs.Numbers.{numbers_of}
use Rattle.frame_marks.specs.Marks.{frame_line}

-- ---- the header
-- two numbers, each behind some text
abbrev pub two : List ℕ → ℕ → List ℕ → ℕ → List ℕ
two before a between b = before ++ (decimal a ++ (between ++ decimal b))

-- `YUV4MPEG2 W16 H16`, ` F25:1`, ` Ip A0:0`
abbrev pub size_text : Numbers → List ℕ
size_text n = two (89 ∷ 85 ∷ 86 ∷ 52 ∷ 77 ∷ 80 ∷ 69 ∷ 71 ∷ 50 ∷ 32 ∷ 87 ∷ []) n.width (32 ∷ 72 ∷ []) n.height

abbrev pub rate_text : Numbers → List ℕ
rate_text n = two (32 ∷ 70 ∷ []) n.frn (58 ∷ []) n.frd

abbrev pub aspect_text : Numbers → List ℕ
aspect_text n = two (32 ∷ 73 ∷ 112 ∷ 32 ∷ 65 ∷ []) n.parn (58 ∷ []) n.pard

-- ` C420jpeg`, "4:2:2 is `C422`, 4:4:4 is `C444`", and a line feed
unfoldable pub format_text : ℕ → List ℕ
format_text pf =
    choose (eqb pf 0) (32 ∷ 67 ∷ 52 ∷ 50 ∷ 48 ∷ 106 ∷ 112 ∷ 101 ∷ 103 ∷ 10 ∷ [])
    (choose (eqb pf 2) (32 ∷ 67 ∷ 52 ∷ 50 ∷ 50 ∷ 10 ∷ []) (32 ∷ 67 ∷ 52 ∷ 52 ∷ 52 ∷ 10 ∷ []))

-- the header line
unfoldable pub header_text : Numbers → List ℕ
header_text n = size_text n ++ (rate_text n ++ (aspect_text n ++ format_text n.pf))

-- ---- frames
-- the macro blocks of a frame across and up
abbrev pub wide : Numbers → ℕ
wide n = n.width / 16

abbrev pub high : Numbers → ℕ
high n = n.height / 16

-- "Its length is 64·NBS": the bytes of a frame's planes
unfoldable pub frame_bytes : Numbers → ℕ
frame_bytes n = 64 * blocks_of (format_of n.pf) (wide n) (high n)

-- plane p of a plane buffer, "top row first": in the buffer its rows stand bottom first
unfoldable pub plane_rows : PixelFormat → ℕ → ℕ → List ℕ → ℕ → List ℕ
plane_rows f w h planes p = turned (8 * across f w p) (8 * up f h p) (part planes (64 * blocks_before f w h p) (64 * plane_blocks f w h p))

-- "planes in order"
unfoldable pub frame_rows : PixelFormat → ℕ → ℕ → List ℕ → List ℕ
frame_rows f w h planes = in_turn (plane_rows f w h planes) 3

abbrev pub rows_of : Numbers → List ℕ → List ℕ
rows_of n = frame_rows (format_of n.pf) (wide n) (high n)

unfoldable pub frame_text : Numbers → List ℕ → List ℕ
frame_text n planes = frame_line ++ rows_of n planes

-- frame k of a buffer in which frames lie one behind the other, and the first `count` of them as a stream has them
abbrev pub frame_of : Numbers → List ℕ → ℕ → List ℕ
frame_of n frames k = part frames (k * frame_bytes n) (frame_bytes n)

unfoldable pub frames_text : Numbers → List ℕ → ℕ → List ℕ
frames_text n frames count = in_turn (λ k. frame_text n (frame_of n frames k)) count

-- "A header alone is a stream of no frames"
unfoldable pub stream_text : Numbers → List ℕ → ℕ → List ℕ
stream_text n frames count = header_text n ++ frames_text n frames count

-- ---- the writing calls: 8, then 1, then 14
-- "frame after frame in one buffer": a whole number of plane buffers
abbrev pub whole : Numbers → List ℕ → Bool
whole n frames = eqb (length frames % frame_bytes n) 0

abbrev pub count_of : Numbers → List ℕ → ℕ
count_of n frames = length frames / frame_bytes n

abbrev pub stream_with : Numbers → List ℕ → ℕ → Output
stream_with n frames room = choose (whole n frames) (within room (stream_text n frames (count_of n frames))) (refused wrong_length)

unfoldable pub stream_for : Session → List ℕ → ℕ → Output
stream_for s frames room = choose (session_fits s) (stream_with (numbers_of s) frames room) (refused not_genuine)

unfoldable pub header_for : Session → ℕ → Output
header_for s room = choose (session_fits s) (within room (header_text (numbers_of s))) (refused not_genuine)

abbrev pub frame_with : Numbers → List ℕ → ℕ → Output
frame_with n planes room = choose (eqb (length planes) (frame_bytes n)) (within room (frame_text n planes)) (refused wrong_length)

unfoldable pub frame_for : Session → List ℕ → ℕ → Output
frame_for s planes room = choose (session_fits s) (frame_with (numbers_of s) planes room) (refused not_genuine)

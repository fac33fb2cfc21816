-- the line that each frame of a YUV4MPEG2 stream begins with
use Rattle.std.specs.Prelude.{ℕ, zero, suc, ◌*◌, List, [], ◌∷◌, Bool, true, ◌&&◌}
use Rattle.output.specs.Output.{part}
use Rattle.text.specs.Same.{same}

-- "each frame is `FRAME`, a line feed, and here 384 bytes"
abbrev pub frame_line : List ℕ
frame_line = 70 ∷ 82 ∷ 65 ∷ 77 ∷ 69 ∷ 10 ∷ []

-- each of the first k frames begins with `FRAME` and a line feed
unfoldable pub marked : ℕ → List ℕ → ℕ → Bool
marked step body zero = true
marked step body (suc k) = marked step body k && same (part body (k * step) 6) frame_line

-- What one packet more shows of a file that is compared with its frames.
use Rattle.std.specs.Prelude.{ℕ, true, false, List}
use Rattle.bitstream.specs.Reading.{choose}
use Rattle.reading.specs.declared.Verdict.{Verdict}
use Rattle.reading.specs.declared.Verdict.TheVariants.{Accepted, Refused}
use Rattle.stream_numbers.specs.declared.Numbers.{Numbers}
use Rattle.y4m.specs.Stream.{frame_text}
use Rattle.stream_check.specs.Compared.{onward}
use Rattle.watching.specs.declared.Watched.{Watched}

-- one packet more: its refusal, or its frame, which the file must have next
abbrev pub by_verdict : Numbers → (file : List ℕ) → Watched → Verdict → (frame : List ℕ) → Watched
by_verdict n file w (Refused k e) frame = record { compared = w.compared; refused = true; number = k; bit = e }
by_verdict n file w (Accepted t) frame = record { compared = onward w.compared (frame_text n frame) file; refused = false; number = 0; bit = 0 }

-- "The first refusal .. wins": it stays
unfoldable pub watched : Numbers → (file : List ℕ) → Watched → Verdict → (frame : List ℕ) → Watched
watched n file w v frame = choose w.refused w (by_verdict n file w v frame)

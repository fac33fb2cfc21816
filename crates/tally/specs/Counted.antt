-- A packet, counted without a sample: what it answers and what it adds to a census.
use Rattle.std.specs.Prelude.{ℕ}
use Rattle.bitstream.specs.Reading.{Outcome, got, refused}
use Rattle.headers.specs.declared.Session.{Session}
use Rattle.headers.specs.Sizes.{format}
use Rattle.frame_header.specs.declared.Header.{Header}
use Rattle.reading.specs.declared.Verdict.TheVariants.{Accepted}
use Rattle.reading.specs.Answer.{Asked, session_after, answer_for}
use Rattle.counting.specs.declared.Counts.{Counts}
use Rattle.counting.specs.Counts.{no_counts, frame_counts}
use Rattle.tally.specs.declared.Counted.{Counted}

-- "coded and uncoded blocks by plane, macro blocks by mode (inter frames only)": what an accepted packet adds; a refused one adds none
abbrev pub counts_of : Session → Outcome Asked → Counts
counts_of s (refused k e) = no_counts
counts_of s (got a e) = frame_counts (format s) s.fields.fmbw s.fields.fmbh a.frame.header.kind a.frame.body.coded a.frame.body.modes

-- beside what a frame call answers
abbrev pub counted_by : Session → Outcome Asked → Counted
counted_by s o = record { answer = answer_for s o; counts = counts_of s o }

-- the answer for an accepted packet, by its parts
abbrev pub accepted : Session → Header → ℕ → Counts → Counted
accepted s header tokens counts = record { answer = record { verdict = Accepted tokens; header = header; session = session_after header.kind s }; counts = counts }

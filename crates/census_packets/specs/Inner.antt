-- What the functions that count packets ask and answer.
use Rattle.std.specs.Prelude.{ℕ}
use Rattle.bitstream.specs.Reading.{Outcome, got, refused}
use Rattle.headers.specs.declared.Session.{Session}
use Rattle.reading.specs.declared.Verdict.{Verdict}
use Rattle.reading.specs.declared.Verdict.TheVariants.{Accepted, Refused}
use Rattle.report.specs.Report.{Numbered}
use Rattle.census_packets.specs.declared.HeadersAnswer.{HeadersAnswer}
use Rattle.census_packets.specs.declared.HeadersAnswer.TheVariants.{Sound, Refused as NotSound}

-- the fresh session and the byte place of the first frame packet, or the number of the first refused header
abbrev pub as_headers : (place : ℕ) → Outcome Session → HeadersAnswer
as_headers place (got s e) = Sound s place
as_headers place (refused k e) = NotSound k

-- what is promised where the headers are sound
abbrev pub IfSound : Type 0 → HeadersAnswer → Type 0
IfSound P (Sound s place) = P
IfSound P (NotSound k) = Unit {0}

abbrev pub AllNumbered : Verdict → Type 0
AllNumbered (Accepted t) = Unit {0}
AllNumbered (Refused k e) = Numbered k

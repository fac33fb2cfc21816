-- The face of `census` for C: the answer is a number.
use Rattle.std.specs.Prelude.{ℕ, List}
use Rattle.census_packets.specs.Recording.{Lent}
use Rattle.census.specs.Call.{CensusCall, CensusDone, by_census}
use Rattle.report.specs.Answer.{number_of}

-- what a call returns, and all that is lent to be written
pub record CensusReturned : Type 0 where
  pub number : ℕ
  pub report : List ℕ
  pub lent : Lent

abbrev pub census_gives : ℕ → (report : List ℕ) → Lent → CensusReturned
census_gives k report l = record { number = k; report = report; lent = l }

abbrev pub done_returned : CensusDone → CensusReturned
done_returned d = census_gives (number_of d.answer) d.report d.lent

unfoldable pub census_face : CensusCall → CensusReturned
census_face c = done_returned (by_census c)

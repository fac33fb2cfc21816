-- What a census answers, as a number.
use Rattle.std.specs.Prelude.{ℕ}
use Rattle.report.specs.declared.CensusAnswer.{CensusAnswer}
use Rattle.report.specs.declared.CensusAnswer.TheVariants.{Counted, Refused}

-- 0, or the number of the refusal: its place is 0
abbrev pub number_of : CensusAnswer → ℕ
number_of Counted = 0
number_of (Refused k e) = k

-- Groups of fields of the identification header.
use Rattle.bitstream.specs.Reading.{Outcome, got, refused, Parse, pure, field, ◌>>=◌}
use Rattle.bitstream.specs.Numbers.{bad_format}
use Rattle.header_groups.specs.declared.Rates.{Rates}
use Rattle.header_groups.specs.declared.RatesAnswer.{RatesAnswer}
use Rattle.header_groups.specs.declared.Coding.{Coding}
use Rattle.header_groups.specs.declared.CodingAnswer.{CodingAnswer}
use Rattle.header_fields.specs.Tests.{exactly, positive, format_code}

-- "FRN 32, FRD 32 (both > 0), PARN 24, PARD 24, CS 8 (any)"
unfoldable pub rates : Parse Rates
rates = do
  frn ← positive 32
  frd ← positive 32
  parn ← field 24
  pard ← field 24
  cs ← field 8
  pure (record { frn = frn; frd = frd; parn = parn; pard = pard; cs = cs })

-- "NOMBR 24, QUAL 6, KFGSHIFT 5, PF 2, 3 zero bits"; "PF is 1, or the 3 last identification bits are not 0" is number 6
unfoldable pub coding : Parse Coding
coding = do
  nombr ← field 24
  qual ← field 6
  kfgshift ← field 5
  pf ← format_code 2
  zero_bits ← exactly 3 0 bad_format
  pure (record { nombr = nombr; qual = qual; kfgshift = kfgshift; pf = pf })

abbrev pub as_rates : Outcome Rates → RatesAnswer
as_rates (got r e) = RatesAnswer.Is r e
as_rates (refused k e) = RatesAnswer.Refused k e

abbrev pub as_coding : Outcome Coding → CodingAnswer
as_coding (got c e) = CodingAnswer.Is c e
as_coding (refused k e) = CodingAnswer.Refused k e

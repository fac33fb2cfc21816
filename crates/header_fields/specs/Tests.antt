-- The judgements of header fields: "header fields are judged at once".
use Rattle.std.specs.Prelude.{ℕ, Bool, not, leb, ltb, eqb}
use Rattle.bitstream.specs.Reading.{Parse, judged}
use Rattle.bitstream.specs.Numbers.{out_of_range, bad_format}

-- the tests
abbrev pub is_exactly : ℕ → ℕ → Bool
is_exactly want v = eqb v want

abbrev pub is_positive : ℕ → Bool
is_positive v = ltb 0 v

abbrev pub is_at_most : ℕ → ℕ → Bool
is_at_most most v = leb v most

-- every pixel format but 1
abbrev pub is_format : ℕ → Bool
is_format v = not (eqb v 1)

-- n bits that must be `want`, else number k
abbrev pub exactly : ℕ → ℕ → ℕ → Parse ℕ
exactly n want k = judged n (is_exactly want) k

-- n bits that must be above 0, or at most `most`: "an identification field breaks its range" is number 5
abbrev pub positive : ℕ → Parse ℕ
positive n = judged n is_positive out_of_range

abbrev pub at_most : ℕ → ℕ → Parse ℕ
at_most n most = judged n (is_at_most most) out_of_range

-- "PF is 1" is number 6
abbrev pub format_code : ℕ → Parse ℕ
format_code n = judged n is_format bad_format

-- "five tables of 256 whole numbers, one for luma and four for chroma, each entry the contribution in units of 1/65536 of a 0..255 step, rounded to nearest, ties away from 0"
use Rattle.std.specs.Prelude.{ℕ, zero, suc, ◌*◌, ◌-◌, List, [], ◌∷◌, ◌++◌, ℤ, pos, neg_ℤ, ◌-ℤ◌, ◌*ℤ◌}
use Rattle.numeric.specs.Divide.{round_over}

-- a step of 0 to 255 has 65536 units, and 1 is 255 steps
abbrev pub units : ℕ
units = 255 * 65536

-- a rule: the value less an offset, times a rational number
pub record Rule : Type 0 where
  pub offset : ℕ
  pub factor : ℤ
  pub over : ℕ

-- "Kr = 0.299", "Kb = 0.114", in thousandths; "Offset = (16, 128, 128)", "Excursion = (219, 224, 224)"
-- Y' = (Y - 16) / 219
abbrev pub luma : Rule
luma = record { offset = 16; factor = pos units; over = 219 }

-- R' = Y' + 2 (1 - Kr) Pr
abbrev pub red_cr : Rule
red_cr = record { offset = 128; factor = pos (units * (2 * (1000 - 299))); over = 224 * 1000 }

-- G' = Y' - 2 ((1 - Kb) Kb / (1 - Kb - Kr)) Pb - 2 ((1 - Kr) Kr / (1 - Kb - Kr)) Pr
abbrev pub green_cb : Rule
green_cb = record { offset = 128; factor = neg_ℤ (pos (units * (2 * ((1000 - 114) * 114)))); over = 224 * ((1000 - 114 - 299) * 1000) }

abbrev pub green_cr : Rule
green_cr = record { offset = 128; factor = neg_ℤ (pos (units * (2 * ((1000 - 299) * 299)))); over = 224 * ((1000 - 114 - 299) * 1000) }

-- B' = Y' + 2 (1 - Kb) Pb
abbrev pub blue_cb : Rule
blue_cb = record { offset = 128; factor = pos (units * (2 * (1000 - 114))); over = 224 * 1000 }

-- the entry of a value, before rounding: this over r.over
abbrev pub ruled : Rule → ℕ → ℤ
ruled r v = r.factor *ℤ (pos v -ℤ pos r.offset)

-- the entry of a value
unfoldable pub entry : Rule → ℕ → ℤ
entry r v = round_over r.over (ruled r v)

-- the entries of n values, from v on
unfoldable pub entries_from : Rule → ℕ → ℕ → List ℤ
entries_from r v zero = []
entries_from r v (suc n) = entry r v ∷ entries_from r (suc v) n

abbrev pub table : Rule → List ℤ
table r = entries_from r 0 256

-- the five tables, one behind the other
unfoldable pub contributions : List ℤ
contributions = table luma ++ (table red_cr ++ (table green_cb ++ (table green_cr ++ table blue_cb)))

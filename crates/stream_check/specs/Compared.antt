-- A file compared with what it must be.
use Rattle.std.specs.Prelude.{ℕ, suc, ◌+◌, false, List, [], ◌∷◌, eqb, ltb, length, drop}
use Rattle.bitstream.specs.Reading.{choose}
use Rattle.stream_check.specs.declared.Compared.{Compared}

-- "the first differing byte; a file cut short or too long differs at the shorter length"
unfoldable pub difference : List ℕ → List ℕ → ℕ
difference [] file = 0
difference (a ∷ want) [] = 0
difference (a ∷ want) (b ∷ file) = choose (eqb a b) (suc (difference want file)) 0

-- nothing is compared yet
abbrev pub beginning : Compared
beginning = record { place = 0; differs = false }

-- some wanted bytes more, from the place that was reached on: the place behind them, or the first at which they differ, which stays
unfoldable pub onward : Compared → (want file : List ℕ) → Compared
onward c want file =
    let n = difference want (drop c.place file) in
    choose c.differs c (record { place = c.place + n; differs = ltb n (length want) })

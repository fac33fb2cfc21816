-- "Modes (inter)": the mode of each rank, by the scheme; and which macro blocks send a mode.
use Rattle.std.specs.Prelude.{ℕ, zero, suc, ◌+◌, ◌-◌, ◌*◌, ◌/◌, ◌%◌, ◌^◌, List, [], ◌∷◌, Bool, eqb, ltb, get_or, set, replicate}
use Rattle.bitstream.specs.Reading.{Parse, pure, pick, choose, field, ◌>>=◌}

-- "0 sends for each mode its 3-bit unary (a later one overwrites)": n more modes, from mode m on, where `alphabet` has the mode of each unary so far
unfoldable pub ranks_from : ℕ → ℕ → List ℕ → Parse (List ℕ)
ranks_from zero m alphabet = pure alphabet
ranks_from (suc n) m alphabet = do
  r ← field 3
  ranks_from n (m + 1) (set alphabet r m)

-- "1 to 6 are 34201567, 34021567, 32401567, 32041567, 03421567, 05342167": the digits, from the left, give the mode of each unary
abbrev pub digits : List ℕ
digits = 34201567 ∷ 34021567 ∷ 32401567 ∷ 32041567 ∷ 03421567 ∷ 05342167 ∷ []

unfoldable pub digit : ℕ → ℕ → ℕ
digit scheme r = get_or digits (scheme - 1) 0 / 10 ^ (7 - r) % 10

-- "unset ranks are 0": the mode of each unary that scheme 0 sends; the other schemes send none
unfoldable pub sent_alphabet : ℕ → Parse (List ℕ)
sent_alphabet scheme = pick (eqb scheme 0) (ranks_from 8 0 (replicate 8 0)) (pure (replicate 8 0))

unfoldable pub mode_of_rank : ℕ → List ℕ → ℕ → ℕ
mode_of_rank scheme alphabet r = choose (eqb scheme 0) (get_or alphabet r 0) (digit scheme r)

-- whether one of the four luma blocks of macro block m is coded; flags holds a 0 or 1 for each block, in coded order
unfoldable pub luma_coded : List ℕ → ℕ → Bool
luma_coded flags m = ltb 0 (get_or flags (m * 4) 0 + get_or flags (m * 4 + 1) 0 + get_or flags (m * 4 + 2) 0 + get_or flags (m * 4 + 3) 0)

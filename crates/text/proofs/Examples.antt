-- Worked examples, by computation.
use mathlib.Core.Path.{◌≡◌, refl}
use mathlib.Core.List.{[], ◌∷◌}
use Rattle.text.specs.Decimal.{digits, trimmed, decimal, scanned, scan, number}

-- no leading zeros, and 0 has one digit
zero_text : decimal 0 ≡ 48 ∷ []
unfolding decimal trimmed digits
zero_text = refl

hundred_text : decimal 100 ≡ 49 ∷ 48 ∷ 48 ∷ []
unfolding decimal trimmed digits
hundred_text = refl

-- the largest of 32 bits: 4294967295
widest_text : decimal 4294967295 ≡ 52 ∷ 50 ∷ 57 ∷ 52 ∷ 57 ∷ 54 ∷ 55 ∷ 50 ∷ 57 ∷ 53 ∷ []
unfolding decimal trimmed digits
widest_text = refl

-- `016 ` says 16 and leaves the space; `+1` says nothing
zeros_read : number (48 ∷ 49 ∷ 54 ∷ 32 ∷ []) ≡ scanned 16 (32 ∷ [])
unfolding scan
zeros_read = refl

plus_read : number (43 ∷ 49 ∷ []) ≡ scanned 0 (43 ∷ 49 ∷ [])
unfolding scan
plus_read = refl

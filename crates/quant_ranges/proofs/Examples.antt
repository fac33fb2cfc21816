-- Worked examples.
use mathlib.Core.Path.{◌≡◌, refl}
use mathlib.Core.List.{[], ◌∷◌}
use Rattle.quant_ranges.specs.Ranges.{range_from, range_of}

-- sizes 2, 60, 1: qi 2 lies at the end of the first range, qi 3 in the second
border : range_of (2 ∷ 60 ∷ 1 ∷ []) 2 ≡ record { number = 0; start = 0; size = 2 }
unfolding range_from
border = refl

inner : range_of (2 ∷ 60 ∷ 1 ∷ []) 3 ≡ record { number = 1; start = 2; size = 60 }
unfolding range_from
inner = refl

-- qi 63 lies in the last range, also where a set has one range alone
last : range_of (2 ∷ 60 ∷ 1 ∷ []) 63 ≡ record { number = 2; start = 62; size = 1 }
unfolding range_from
last = refl

only : range_of (63 ∷ []) 63 ≡ record { number = 0; start = 0; size = 63 }
unfolding range_from
only = refl

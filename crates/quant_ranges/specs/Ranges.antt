-- The range of a qi in a set (002, "Computing a Quantization Matrix").
use Rattle.std.specs.Prelude.{ℕ, ◌+◌, ◌≤◌, List, [], ◌∷◌, leb, get_or, take, drop}
use Rattle.bitstream.specs.Reading.{choose}
use Rattle.quantization.specs.Sound.{total}
use Rattle.quant_ranges.specs.declared.Range.{Range}

-- the first range that ends at qi or behind it: range k, which begins at s and has the size n, or one of those behind it, whose sizes are the list. What none before it has lies in the last
unfoldable pub range_from : ℕ → ℕ → ℕ → List ℕ → ℕ → Range
range_from k s n [] qi = record { number = k; start = s; size = n }
range_from k s n (m ∷ l) qi = choose (leb qi (s + n)) (record { number = k; start = s; size = n }) (range_from (k + 1) (s + n) m l qi)

abbrev pub range_of : List ℕ → ℕ → Range
range_of l qi = range_from 0 0 (get_or l 0 0) (drop 1 l) qi

-- range k of a set
abbrev pub range_at : List ℕ → ℕ → Range
range_at l k = record { number = k; start = total (take k l); size = get_or l k 0 }

-- qi lies in a range that is one
pub record InRange (r : Range) (qi : ℕ) : Type 0 where
  pub some : 1 ≤ r.size
  pub from : r.start ≤ qi
  pub to : qi ≤ r.start + r.size
  pub low : r.start + r.size ≤ 63

-- The quant range of a qi, in a table memory that passes number 8.
use Rattle.std.specs.Prelude.{ℕ, ◌+◌, ◌≤◌, ◌<◌, ◌≡◌, List, length, get_or, take}
use Rattle.bitstream.specs.Reading.{got}
use Rattle.bitstream.specs.Lists.{tabulated}
use Rattle.quantization.specs.Parameters.{Ranges, Quantization}
use Rattle.quantization.specs.Sound.{total}
use Rattle.quant_ranges.specs.Ranges.{range_of, range_at, InRange}
use Rattle.matrices.specs.Matrix.{set_of, entry_at}
use Rattle.setup.specs.Header.{Setup}
use Rattle.setup.specs.Table.{held_setup}

-- the matrix of a set at qi, by one of its ranges
abbrev pub matrix_by : Quantization → Ranges → (k type qi : ℕ) → List ℕ
matrix_by q set k type qi = tabulated (entry_at q set (range_at set.sizes k) type qi) 0 64

-- the ranges of one set
pub record RangesFit (q : Quantization) (type plane : ℕ) : Type 0 where
  -- "a range is always found": every qi lies in the range that the lookup gives, which is one of the set's
  pub found : (qi : ℕ) → qi ≤ 63 → InRange (range_of (set_of q type plane).sizes qi) qi × ((range_of (set_of q type plane).sizes qi).number < length (set_of q type plane).sizes)
  -- "at a border both ranges give the same matrix": qi is where range k ends and range k + 1 begins
  pub border : (k : ℕ) → k + 1 < length (set_of q type plane).sizes → let qi = total (take k (set_of q type plane).sizes) + get_or (set_of q type plane).sizes k 0 in
      matrix_by q (set_of q type plane) k type qi ≡ matrix_by q (set_of q type plane) (k + 1) type qi
  -- so do any two ranges that hold qi
  pub same : (qi j k : ℕ) → j < length (set_of q type plane).sizes → k < length (set_of q type plane).sizes
      → InRange (range_at (set_of q type plane).sizes j) qi → InRange (range_at (set_of q type plane).sizes k) qi
      → matrix_by q (set_of q type plane) j type qi ≡ matrix_by q (set_of q type plane) k type qi

-- "for tables that pass number 8": table memory that holds a setup; both types, all three planes
abbrev pub RangesHold : Type 0
RangesHold = (t : List ℕ) (s : Setup) (e : ℕ) → held_setup t ≡ got s e → (type plane : ℕ) → type < 2 → plane < 3 → RangesFit s.parameters type plane

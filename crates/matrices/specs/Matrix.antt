-- The quantization matrix of a type, a plane and a qi (002, "Computing a Quantization Matrix").
use Rattle.std.specs.Prelude.{ℕ, ◌+◌, ◌*◌, ◌≡◌, List, [], eqb, get_or}
use Rattle.bitstream.specs.Reading.{choose}
use Rattle.bitstream.specs.Lists.{tabulated}
use Rattle.quantization.specs.Parameters.{Ranges, Quantization, none}
use Rattle.quantization.specs.Sound.{Holds}
use Rattle.quantization.specs.declared.LoadedParameters.{LoadedParameters}
use Rattle.quant_ranges.specs.Ranges.{range_of}
use Rattle.quant_ranges.specs.declared.Range.{Range}
use Rattle.matrix_values.specs.Values.{interpolated}
unfoldable pub use Rattle.matrix_values.specs.Values.{minimum, scaled}

-- the value at the coefficient c between the two base matrices' values b₁ and b₂
unfoldable pub value_at : (type dc ac : ℕ) → Range → (qi c b₁ b₂ : ℕ) → ℕ
value_at type dc ac r qi c b₁ b₂ = scaled (minimum type c) (choose (eqb c 0) dc ac) (interpolated r qi b₁ b₂)

-- the set of a type and a plane
abbrev pub set_of : Quantization → (type plane : ℕ) → Ranges
set_of q type plane = get_or q.sets (3 * type + plane) none

-- the value at the coefficient c of the base matrix that a set's k-th index names
abbrev pub base_at : Quantization → Ranges → (k c : ℕ) → ℕ
base_at q set k c = get_or (get_or q.matrices (get_or set.indices k 0) []) c 0

-- the value at the coefficient c, where the range r of the set is that of qi
abbrev pub entry_at : Quantization → Ranges → Range → (type qi c : ℕ) → ℕ
entry_at q set r type qi c = value_at type (get_or q.dc_scale qi 0) (get_or q.ac_scale qi 0) r qi c (base_at q set r.number c) (base_at q set (r.number + 1) c)

-- the matrix of a type (0 intra, 1 inter), a plane and a qi, in natural order
unfoldable pub matrix_of : Quantization → (type plane qi : ℕ) → List ℕ
matrix_of q type plane qi = tabulated (entry_at q (set_of q type plane) (range_of (set_of q type plane).sizes qi) type qi) 0 64

-- the slice is the matrix of the parameters that l is
abbrev pub MatrixIs : (p : List ℕ) (l : LoadedParameters) (type plane qi : ℕ) → List ℕ → Type 0
MatrixIs p l type plane qi out = (q : Quantization) → Holds p l q → out ≡ matrix_of q type plane qi

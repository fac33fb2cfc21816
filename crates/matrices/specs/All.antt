-- The matrices of a list of qi, in one slice.
use Rattle.std.specs.Prelude.{ℕ, ◌+◌, ◌*◌, ◌<◌, List, get_or, take, drop}
use Rattle.quantization.specs.declared.LoadedParameters.{LoadedParameters}
use Rattle.matrices.specs.Matrix.{MatrixIs}

-- every one of the first `count` is a qi
abbrev pub AllQi : List ℕ → ℕ → Type 0
AllQi qis count = (index : ℕ) → index < count → get_or qis index 0 < 64

-- the slice has the matrices of the first `count` qi, for each type, in it for each plane, in it for each qi
abbrev pub AllMatricesAre : (p : List ℕ) → LoadedParameters → (qis : List ℕ) → ℕ → List ℕ → Type 0
AllMatricesAre p l qis count ms =
    (type plane index : ℕ) → type < 2 → plane < 3 → index < count → MatrixIs p l type plane (get_or qis index 0) (take 64 (drop (((type * 3 + plane) * 3 + index) * 64) ms))

-- The matrices of a list of qi, in a slice, and those that are kept from packet to packet.
use Rattle.std.specs.Prelude.{ℕ, ◌<◌, ◌≡◌, Bool, ◌&&◌, List, eqb, length, get_or}
use Rattle.quantization.specs.Parameters.{Quantization}
use Rattle.quantization.specs.Sound.{Holds}
use Rattle.quantization.specs.declared.LoadedParameters.{LoadedParameters}
use Rattle.matrices.specs.Matrix.{matrix_of}
use Rattle.reconstruct.specs.Lent.{matrix_in}
use Rattle.kept_matrices.specs.declared.KeptMatrices.{KeptMatrices}

-- the slice holds the matrices of the first `count` qi, by the parameters that l is
abbrev pub MatricesAre : (p : List ℕ) → LoadedParameters → (qis : List ℕ) → ℕ → List ℕ → Type 0
MatricesAre p l qis count ms =
    (q : Quantization) → Holds p l q → (type plane index : ℕ) → type < 2 → plane < 3 → index < count → matrix_in ms type plane index ≡ matrix_of q type plane (get_or qis index 0)

-- what is kept is the matrices of its own list, which may be empty
pub record Keeps (p : List ℕ) (l : LoadedParameters) (k : KeptMatrices) : Type 0 where
  pub long : length k.values ≡ 1152
  pub own : MatricesAre p l k.qis k.count k.values

-- and those of another list, too
pub record Serves (p : List ℕ) (l : LoadedParameters) (qis : List ℕ) (count : ℕ) (k : KeptMatrices) : Type 0 where
  pub keeps : Keeps p l k
  pub asked : MatricesAre p l qis count k.values

-- two lists are the same
abbrev pub same_list : (qis : List ℕ) (count : ℕ) (qis' : List ℕ) (count' : ℕ) → Bool
same_list a n b m = eqb n m && eqb (get_or a 0 0) (get_or b 0 0) && eqb (get_or a 1 0) (get_or b 1 0) && eqb (get_or a 2 0) (get_or b 2 0)

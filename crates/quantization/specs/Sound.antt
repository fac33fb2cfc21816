-- What holds of parameters that were read (laws `quantization-whole` and `read-holds` of proofs/Soundness).
use Rattle.std.specs.Prelude.{ℕ, ◌+◌, ◌*◌, ◌≤◌, ◌<◌, ◌≡◌, List, [], ◌∷◌, length, get_or}
use Rattle.bitstream.specs.Bits.{bits, number}
use Rattle.quantization.specs.Parameters.{Ranges, Quantization, none}
use Rattle.quantization.specs.Answer.{loaded_parameters}
use Rattle.quantization.specs.declared.LoadedParameters.{LoadedParameters}

-- the sum of a list
abbrev pub total : List ℕ → ℕ
total [] = 0
total (n ∷ l) = n + total l

-- a set of ranges over n base matrices: "the sum of the sizes of all the ranges MUST be 63"
pub record Sound (n : ℕ) (r : Ranges) : Type 0 where
  pub sum : total r.sizes ≡ 63
  pub positive : (k : ℕ) → k < length r.sizes → 1 ≤ get_or r.sizes k 0
  pub ends : length r.indices ≡ length r.sizes + 1
  pub below : (k : ℕ) → k < length r.indices → get_or r.indices k 0 < n

-- six sound sets, 64 scales of each kind, and base matrices that stand whole in the packet p, entry c of matrix m at 512 * m + 8 * c behind the place of the first
pub record Whole (q : Quantization) (p : List ℕ) : Type 0 where
  pub ac_long : length q.ac_scale ≡ 64
  pub dc_long : length q.dc_scale ≡ 64
  pub six : length q.sets ≡ 6
  pub sound : (k : ℕ) → k < 6 → Sound (length q.matrices) (get_or q.sets k none)
  pub room : q.matrices_at + length q.matrices * 512 ≤ bits p
  pub numbers : (m c : ℕ) → m < length q.matrices → c < 64 → get_or (get_or q.matrices m []) c 0 ≡ number p (q.matrices_at + m * 512 + c * 8) 8

-- l is the parameters q, whose base matrices stand in the packet p
pub record Holds (p : List ℕ) (l : LoadedParameters) (q : Quantization) : Type 0 where
  pub is : l ≡ loaded_parameters q
  pub whole : Whole q p

-- l is some parameters
abbrev pub Held : List ℕ → LoadedParameters → Type 0
Held p l = (q : Quantization) × Holds p l q

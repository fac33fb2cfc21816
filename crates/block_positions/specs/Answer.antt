-- What the code answers and leaves: lists of blocks, by their positions.
use Rattle.std.specs.Prelude.{ℕ, ◌<◌, List, [], ◌∷◌, eqb, length, get_or}
use Rattle.bitstream.specs.Reading.{choose}

-- 1 where a block that stands at p stands at the position k; those of the blocks bs that do
abbrev pub one_if_due : ℕ → ℕ → ℕ
one_if_due k p = choose (eqb p k) 1 0

unfoldable pub due_of : ℕ → List ℕ → List ℕ → List ℕ
due_of k ps [] = []
due_of k ps (b ∷ bs) = choose (eqb (get_or ps b 0) k) (b ∷ due_of k ps bs) (due_of k ps bs)

-- every block of the list is one of n
pub record Below (n : ℕ) (bs : List ℕ) : Type 0 where
  pub each : (j : ℕ) → j < length bs → get_or bs j 0 < n

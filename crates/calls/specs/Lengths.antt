-- The lengths of what a caller lends beside work memory.
use Rattle.std.specs.Prelude.{ℕ, ◌*◌, Bool, List, [], ◌∷◌, eqb, length}
use Rattle.headers.specs.Fits.{all}
use Rattle.setup.specs.Table.{table_bytes}

-- the buffers of three planes for frames of n blocks, "Its length is 64·NBS", and table memory have their lengths
unfoldable pub buffers_fit : (n : ℕ) (golden previous new table : List ℕ) → Bool
buffers_fit n golden previous new table = all (eqb (length golden) (64 * n) ∷ eqb (length previous) (64 * n) ∷ eqb (length new) (64 * n) ∷ eqb (length table) table_bytes ∷ [])

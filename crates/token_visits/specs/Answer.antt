-- What bounds the tokens of a pass.
use Rattle.std.specs.Prelude.{ℕ, ◌+◌, ◌-◌, List, [], ◌∷◌}

-- how far the blocks are from their ends, together
unfoldable pub room : List ℕ → ℕ
room [] = 0
room (p ∷ ps) = (64 - p) + room ps

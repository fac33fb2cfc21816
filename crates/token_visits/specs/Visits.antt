-- A pass over blocks.
use Rattle.std.specs.Prelude.{ℕ, List, [], ◌∷◌}
use Rattle.bitstream.specs.Reading.{Parse, pure, bind}
use Rattle.huffman.specs.Tree.{Tree}
use Rattle.block_visits.specs.Visits.{TokenState, visit}

-- "At each position the coded blocks there are visited in coded order": the blocks of a list in turn
unfoldable pub pass : Tree → ℕ → List ℕ → TokenState → Parse TokenState
pass tree k [] s = pure s
pass tree k (b ∷ bs) s = bind (visit tree k b s) (pass tree k bs)

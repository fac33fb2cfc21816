-- What the reader of two trees keeps, and what it finds.
use Rattle.std.specs.Prelude.{ℕ, ◌+◌, ◌≤◌, ◌<◌, ◌≡◌, List, ◌++◌, get_or}
use Rattle.bitstream.specs.Reading.{got}
use Rattle.huffman.specs.Tree.{Tree, huffman_tree, nodes_of}

-- n entries from d on are v, and those before are as they were
pub record Pushed (old new : List ℕ) (d n v : ℕ) : Type 0 where
  pub before : (k : ℕ) → k < d → get_or new k 0 ≡ get_or old k 0
  pub there : (k : ℕ) → d ≤ k → k < d + n → get_or new k 0 ≡ v

-- two trees, one behind the other, each of 223 bits, and their nodes
pub record Pair (p : List ℕ) (at : ℕ) (nodes : List ℕ) : Type 0 where
  pub first : Tree
  pub second : Tree
  pub here : huffman_tree p at ≡ got first (at + 223)
  pub behind : huffman_tree p (at + 223) ≡ got second (at + 446)
  pub laid : nodes ≡ nodes_of first ++ nodes_of second

-- The codes of a Huffman tree.
use Rattle.std.specs.Prelude.{ℕ, zero, suc, ◌+◌, ◌-◌, ◌≡◌, List, eqb, ltb, get_or}
use Rattle.bitstream.specs.Reading.{Parse, pure, pick, choose, field, whole, ◌>>=◌}
use Rattle.huffman.specs.Tree.{Tree, leaf, fork, Proper, nodes_of}

-- the token whose code the next bits are: a 0 goes to the 0 branch, and a lone leaf reads no bit
unfoldable pub code : Tree → Parse ℕ
code (leaf t) = pure t
code (fork l r) = do
  b ← field 1
  pick (eqb b 0) (code l) (code r)

-- a code that the packet's end cuts is refused at its first bit
unfoldable pub token_code : Tree → Parse ℕ
token_code t = whole (code t)

-- a table that holds the nodes of a tree that was read
pub record Formed (nodes : List ℕ) : Type 0 where
  pub tree : Tree
  pub proper : Proper tree
  pub there : nodes ≡ nodes_of tree

-- the tree whose nodes stand in a list from the index n on, down to the depth
unfoldable pub tree_at : ℕ → List ℕ → ℕ → Tree
tree_at zero nodes n = leaf (get_or nodes n 0)
tree_at (suc depth) nodes n =
    choose (ltb (get_or nodes n 0) 128) (leaf (get_or nodes n 0)) (fork (tree_at depth nodes (n + 1)) (tree_at depth nodes (get_or nodes n 0 - 128)))

-- the tree of a table: law `tree_of` of proofs/Nodes says that this undoes `nodesOf`
unfoldable pub tree_of : List ℕ → Tree
tree_of nodes = tree_at 32 nodes 0

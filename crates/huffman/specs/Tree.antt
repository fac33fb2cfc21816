-- Huffman trees, and how one is read from a setup packet.
use Rattle.std.specs.Prelude.{ℕ, zero, suc, ◌+◌, ◌-◌, ◌<◌, ◌≤◌, Bool, List, [], ◌∷◌, ◌++◌, eqb, ltb, replicate}
use Rattle.bitstream.specs.Reading.{Parse, pure, bind, pick, choose, field, judged, ◌>>=◌, ◌>>◌}
use Rattle.bitstream.specs.Numbers.{bad_setup}

-- a leaf with its token, or the 0 branch and the 1 branch
pub data Tree : Type 0 where
  leaf : ℕ → Tree
  fork : Tree → Tree → Tree

-- how many leaves
abbrev pub leaves : Tree → ℕ
leaves (leaf t) = 1
leaves (fork l r) = leaves l + leaves r

-- how many nodes: leaves and forks
abbrev pub size : Tree → ℕ
size (leaf t) = 1
size (fork l r) = size l + size r + 1

-- "Too long is found at depth 32's branch bit, a 33rd leaf at its leaf bit.": whether the leaf bit b may stand where codes may grow by `depth` more bits and `seen` leaves stand before
abbrev pub allowed : ℕ → ℕ → ℕ → Bool
allowed depth seen b = choose (eqb b 1) (ltb seen 32) (ltb 0 depth)

-- "1 bit leaf": a 1 is a leaf
unfoldable pub leaf_bit : ℕ → ℕ → Parse ℕ
leaf_bit depth seen = judged 1 (allowed depth seen) bad_setup

-- "a leaf then 5-bit token"
unfoldable pub leaf_token : Parse Tree
leaf_token = do
  t ← field 5
  pure (leaf t)

-- "A tree is read depth first: 1 bit leaf, a leaf then 5-bit token, else the 0 branch and the 1 branch." Here codes may grow by `depth` more bits, and `seen` leaves stand before
unfoldable pub tree : ℕ → ℕ → Parse Tree
tree zero seen = leaf_bit zero seen >> leaf_token
tree (suc depth) seen = do
  b ← leaf_bit (suc depth) seen
  pick (eqb b 1) leaf_token (bind (tree depth seen) (λ l. bind (tree depth (seen + leaves l)) (λ r. pure (fork l r))))

-- a whole tree: codes of at most 32 bits, no leaf seen yet
unfoldable pub huffman_tree : Parse Tree
huffman_tree = tree 32 0

-- every token is below 32
abbrev pub Tokens : Tree → Type 0
Tokens (leaf t) = t < 32
Tokens (fork l r) = Tokens l × Tokens r

-- what every tree that was read is
pub record Proper (t : Tree) : Type 0 where
  pub few : leaves t ≤ 32
  pub tokens : Tokens t

-- the tree's nodes, depth first, the first of them at the index base: a leaf is its token; a fork is 128 and the index of its 1 branch, and its 0 branch follows it
unfoldable pub flat : ℕ → Tree → List ℕ
flat base (leaf t) = t ∷ []
flat base (fork l r) = (128 + (base + 1 + size l)) ∷ (flat (base + 1) l ++ flat (base + 1 + size l) r)

-- a table of 64 nodes: those of the tree, then zeros
unfoldable pub nodes_of : Tree → List ℕ
nodes_of t = flat 0 t ++ replicate (64 - size t) 0

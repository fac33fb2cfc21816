-- The walk down a table of nodes by the bits of a packet: what is left of a code at each node. Assumes nothing.
use Prim.Native.Nat.{ℕ, ◌+◌, ◌-◌, ◌≤◌, ◌<◌}
use native.Mathlib.Omega.{arith}
use mathlib.Core.Path.{◌≡◌, refl, sym, ap, ◌∙◌}
use mathlib.Core.List.{List}
use mathlib.Core.Bool.{Bool, true, false}
use lib.Dec.{eqb}
use lib.ListN.{length, get_or}
use Rattle.bitstream.specs.Bits.{bits, bit_at}
use Rattle.bitstream.specs.Reading.{got, choose}
use Rattle.bitstream.proofs.Laws.{whole_got}
use Rattle.huffman.specs.Tree.{Tree, leaf, fork, size}
use Rattle.huffman.specs.Code.{code, token_code, Formed, tree_of}
use Rattle.huffman.proofs.Nodes.{Nodes, nodes_in, formed_nodes, formed_tree}
use Rattle.code_walk.specs.Walk.{branch}
use Rattle.code_walk.proofs.Walks.{one_bit}

-- ---- at the node n the tree s is left
module _ (nodes : List ℕ) (p : List ℕ) where
  walk_leaf : (n i : ℕ) (s : Tree) → Nodes nodes n s → get_or nodes n 0 < 128 → code s p i ≡ got (get_or nodes n 0) i
  unfolding code
  walk_leaf n i (leaf t) h l = ap (λ (x : ℕ). got x i) (sym h.1)
  walk_leaf n i (fork a b) h l = absurd (omega (arith, h.1))

  abbrev Onward : ℕ → ℕ → Tree → ℕ → Type 0
  Onward n i s m = (n < m) × (m < length nodes) × (t : Tree) × Nodes nodes m t × (code s p i ≡ code t p (i + 1))

  on : (n i v : ℕ) (a b : Tree) → Nodes nodes n (fork a b) → v ≡ get_or nodes n 0 → i < bits p → (t : Bool) → eqb (bit_at p i) 0 ≡ t → Onward n i (fork a b) (choose t (n + 1) (v - 128))
  unfolding code
  on n i v a b h w e true t = (omega arith, nodes_in nodes (n + 1) a h.2, a, h.2, rw (one_bit p i e, t))
  on n i v a b h w e false t =
      let k : v - 128 ≡ n + 1 + size a = omega (arith, h.1, w) in
      rw k (omega arith, nodes_in nodes (n + 1 + size a) b h.3, b, h.3, rw (one_bit p i e, t))

  walk_on : (n i v : ℕ) (s : Tree) → Nodes nodes n s → v ≡ get_or nodes n 0 → 128 ≤ v → i < bits p → Onward n i s (branch n v (bit_at p i))
  walk_on n i v (leaf t) h w l e = absurd (omega (arith, h.1, h.2, w))
  walk_on n i v (fork a b) h w l e = on n i v a b h w e _ refl

-- ---- the code from the start is the code of the tree that is left
module _ (nodes : List ℕ) (p : List ℕ) (at : ℕ) where
  abbrev pub Left : ℕ → ℕ → Type 0
  Left node place = (s : Tree) × Nodes nodes node s × (code (tree_of nodes) p at ≡ code s p place)

  pub left_start : Formed nodes → Left 0 at
  left_start f = (f.tree, formed_nodes nodes f, ap (λ (t : Tree). code t p at) (formed_tree nodes f))

  pub left_leaf : (n i : ℕ) → Left n i → get_or nodes n 0 < 128 → token_code (tree_of nodes) p at ≡ got (get_or nodes n 0) i
  unfolding token_code
  left_leaf n i g l = whole_got (code (tree_of nodes)) p at (g.2 ∙ walk_leaf nodes p n i g.0 g.1 l)

  pub left_on : (n i v m : ℕ) → Left n i → v ≡ get_or nodes n 0 → 128 ≤ v → i < bits p → m ≡ branch n v (bit_at p i) → (n < m) × (m < length nodes) × Left m (i + 1)
  left_on n i v m g w l e h =
      let o = walk_on nodes p n i v g.0 g.1 w l e in
      rw h (o.0, o.1, (o.2, o.3, g.2 ∙ o.4))

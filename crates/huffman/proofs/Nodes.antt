-- A table of nodes and its tree: `tree_of` undoes `nodesOf`. Assumes nothing.
use Prim.Native.Nat.{ℕ, zero, suc, ◌+◌, ◌-◌, ◌≤◌, ◌<◌}
use native.Mathlib.Omega.{arith}
use mathlib.Core.Path.{◌≡◌, refl, ap, ap₂, ◌∙◌}
use mathlib.Core.List.{List, [], ◌∷◌, ◌++◌, append_assoc}
use lib.ListN.{length, get_or, replicate, length-append, length-replicate}
use borrow.Author.Tests.{lt-ltb, le-ltb}
use Rattle.huffman.specs.Tree.{Tree, leaf, fork, size, Tokens, Proper, flat, nodes_of}
use Rattle.huffman.specs.Code.{Formed, tree_at, tree_of}
use Rattle.huffman.proofs.Trees.{longest, proper_size, proper_longest}
use Rattle.huffman.proofs.Grows.{flat_length}

pub nodes_length : (t : Tree) → Proper t → length (nodes_of t) ≡ 64
unfolding nodes_of
nodes_length t g = simp (length-append, flat_length, length-replicate) (omega (arith, proper_size g))

pub formed_length : {nodes : List ℕ} → Formed nodes → length nodes ≡ 64
formed_length f = ap length f.there ∙ nodes_length f.tree f.proper

-- that the tree's nodes stand at the index n, and its tokens are tokens
abbrev pub Nodes : List ℕ → ℕ → Tree → Type 0
Nodes nodes n (leaf t) = (n < length nodes) × (get_or nodes n 0 ≡ t) × (t < 32)
Nodes nodes n (fork l r) = (n < length nodes) × (get_or nodes n 0 ≡ 128 + (n + 1 + size l)) × Nodes nodes (n + 1) l × Nodes nodes (n + 1 + size l) r

pub nodes_in : (nodes : List ℕ) (n : ℕ) (s : Tree) → Nodes nodes n s → n < length nodes
nodes_in nodes n (leaf t) h = h.0
nodes_in nodes n (fork l r) h = h.0

at_place : (pre : List ℕ) (x : ℕ) (rest : List ℕ) (n : ℕ) → length pre ≡ n → (n < length (pre ++ (x ∷ rest))) × (get_or (pre ++ (x ∷ rest)) n 0 ≡ x)
at_place [] x rest n h = rw (← h) (omega arith, refl)
at_place (p ∷ pre) x rest n h = rw (← h) (let u = at_place pre x rest (length pre) refl in (omega (arith, u.0), u.1))

flat_nodes : (t : Tree) (pre rest nodes : List ℕ) (base : ℕ) → length pre ≡ base → nodes ≡ pre ++ (flat base t ++ rest) → Tokens t → Nodes nodes base t
unfolding flat
flat_nodes (leaf t) pre rest nodes base h e s = let u = at_place pre t rest base h in rw e (u.0, u.1, s)
flat_nodes (fork l r) pre rest nodes base h e s =
    let x = 128 + (base + 1 + size l) in
    let body = flat (base + 1) l ++ flat (base + 1 + size l) r in
    let u = at_place pre x (body ++ rest) base h in
    let f = flat_nodes l (pre ++ (x ∷ [])) (flat (base + 1 + size l) r ++ rest) nodes (base + 1) (simp length-append (omega (arith, h))) (e ∙ simp append_assoc) s.0 in
    let g = flat_nodes r (pre ++ (x ∷ flat (base + 1) l)) rest nodes (base + 1 + size l) (simp (length-append, flat_length) (omega (arith, h))) (e ∙ simp append_assoc) s.1 in
    (rw e u.0, rw e u.1, f, g)

pub formed_nodes : (nodes : List ℕ) (f : Formed nodes) → Nodes nodes 0 f.tree
unfolding nodes_of
formed_nodes nodes f = flat_nodes f.tree [] (replicate (64 - size f.tree) 0) nodes 0 refl f.there f.proper.tokens

tree_is : (d : ℕ) (nodes : List ℕ) (n : ℕ) (s : Tree) → Nodes nodes n s → longest s ≤ d → tree_at d nodes n ≡ s
unfolding tree_at
tree_is zero nodes n (leaf t) h l = ap leaf h.1
tree_is zero nodes n (fork a b) h l = absurd (omega (arith, l))
tree_is (suc d) nodes n (leaf t) h l = rw (lt-ltb (get_or nodes n 0) 128 (omega (arith, h.1, h.2))) (ap leaf h.1)
tree_is (suc d) nodes n (fork a b) h l =
    let k : get_or nodes n 0 - 128 ≡ n + 1 + size a = omega (arith, h.1) in
    rw (le-ltb (get_or nodes n 0) 128 (omega (arith, h.1)), k) (ap₂ fork (tree_is d nodes (n + 1) a h.2 (omega (arith, l))) (tree_is d nodes (n + 1 + size a) b h.3 (omega (arith, l))))

pub formed_tree : (nodes : List ℕ) (f : Formed nodes) → tree_of nodes ≡ f.tree
unfolding tree_of
formed_tree nodes f = tree_is 32 nodes 0 f.tree (formed_nodes nodes f) (omega (arith, proper_longest f.proper))

pub formed_proper : (nodes : List ℕ) → Formed nodes → Proper (tree_of nodes)
formed_proper nodes f = rw (formed_tree nodes f) f.proper

pub tree_of_law : (nodes : List ℕ) (t : Tree) → Proper t → nodes ≡ nodes_of t → tree_of nodes ≡ t
tree_of_law nodes t g e = formed_tree nodes (record { tree = t; proper = g; there = e })

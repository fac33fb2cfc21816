-- The tables of nodes, and the trees that they hold. Assumes nothing.
use Prim.Native.Nat.{ℕ, zero, suc, ◌+◌, ◌-◌, ◌*◌, ◌<◌}
use native.Mathlib.Omega.{arith}
use mathlib.Core.Path.{◌≡◌, refl, sym, ap, ap₂, ◌∙◌}
use mathlib.Core.List.{List, [], ◌∷◌, ◌++◌}
use lib.ListN.{length, get_or, take, drop, length-append}
use lib.Seq.{take_at, drop_at, drop-drop, drop-append-add}
use Rattle.huffman.specs.Tree.{Tree, leaf, Proper, nodes_of}
use Rattle.huffman.specs.Code.{tree_of, Formed}
use Rattle.huffman.proofs.Nodes.{nodes_length, tree_of_law}
use Rattle.tokens.specs.Answer.{tables_of, AllProper, Tables, nodes_at, trees_from, trees_of, tree_at}

pub tables_length : (ts : List Tree) → AllProper ts → length (tables_of ts) ≡ 64 * length ts
unfolding tables_of
tables_length [] h = refl
tables_length (t ∷ ts) h = rw (length-append (nodes_of t) (tables_of ts)) (omega (arith, nodes_length t h.0, tables_length ts h.1))

-- a tree past the list is a lone leaf, which is proper
pub proper_at : (ts : List Tree) (j : ℕ) → AllProper ts → Proper (get_or ts j (leaf 0))
proper_at [] j h = record { few = omega arith; tokens = omega arith }
proper_at (t ∷ ts) zero h = h.0
proper_at (t ∷ ts) (suc j) h = proper_at ts j h.1

-- the nodes of the tree j
pub nodes_at_law : (ts : List Tree) (j : ℕ) → AllProper ts → j < length ts → nodes_at (tables_of ts) j ≡ nodes_of (get_or ts j (leaf 0))
unfolding tables_of
nodes_at_law [] j h l = absurd (omega (arith, l))
nodes_at_law (t ∷ ts) zero h l = take_at (nodes_of t) (tables_of ts) 64 (nodes_length t h.0)
nodes_at_law (t ∷ ts) (suc j) h l =
    let e : 64 * suc j ≡ length (nodes_of t) + 64 * j = omega (arith, nodes_length t h.0) in
    ap (λ (n : ℕ). take 64 (drop n (nodes_of t ++ tables_of ts))) e ∙ (ap (take 64) (drop-append-add (nodes_of t) (tables_of ts) (64 * j)) ∙ nodes_at_law ts j h.1 (omega (arith, l)))

pub formed_at : (nodes : List ℕ) → Tables nodes → (j : ℕ) → j < 80 → Formed (nodes_at nodes j)
formed_at nodes f j l =
    record {
      tree = get_or f.trees j (leaf 0);
      proper = proper_at f.trees j f.proper;
      there = ap (λ (n : List ℕ). nodes_at n j) f.there ∙ nodes_at_law f.trees j f.proper (omega (arith, f.count));
    }

-- the trees, as they are read from the nodes
from_at : (n j : ℕ) (nodes : List ℕ) → j < n → get_or (trees_from n nodes) j (leaf 0) ≡ tree_of (nodes_at nodes j)
unfolding trees_from
from_at zero j nodes h = absurd (omega (arith, h))
from_at (suc n) zero nodes h = refl
from_at (suc n) (suc j) nodes h =
    let e : 64 + 64 * j ≡ 64 * suc j = omega arith in
    from_at n j (drop 64 nodes) (omega (arith, h)) ∙ ap (λ (x : List ℕ). tree_of (take 64 x)) (drop-drop (64 * j) 64 nodes ∙ ap (λ (m : ℕ). drop m nodes) e)

pub tree_at_law : (nodes : List ℕ) (j : ℕ) → j < 80 → tree_at nodes j ≡ tree_of (nodes_at nodes j)
unfolding trees_of
tree_at_law nodes j h = from_at 80 j nodes h

from_tables : (ts : List Tree) → AllProper ts → trees_from (length ts) (tables_of ts) ≡ ts
unfolding trees_from tables_of
from_tables [] h = refl
from_tables (t ∷ ts) h =
    let n = nodes_length t h.0 in
    ap₂ ◌∷◌ (tree_of_law _ t h.0 (take_at (nodes_of t) (tables_of ts) 64 n)) (ap (trees_from (length ts)) (drop_at (nodes_of t) (tables_of ts) 64 n) ∙ from_tables ts h.1)

-- the trees of the memory are those that were put into it
pub trees_of_law : (nodes : List ℕ) (f : Tables nodes) → trees_of nodes ≡ f.trees
unfolding trees_of
trees_of_law nodes f = ap (trees_from 80) f.there ∙ (ap (λ (n : ℕ). trees_from n (tables_of f.trees)) (sym f.count) ∙ from_tables f.trees f.proper)

pub nodes_long : (nodes : List ℕ) → Tables nodes → length nodes ≡ 5120
nodes_long nodes f = omega (arith, ap length f.there, tables_length f.trees f.proper, f.count)

-- the part from 64 j to 64 j + 64
pub wide : (j : ℕ) → 64 * j + 64 - 64 * j ≡ 64
wide j = omega arith

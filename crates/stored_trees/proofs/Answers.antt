-- For callers: what the answer of `load_tree` says. Assumes nothing.
use Prim.Native.Nat.{ℕ, ◌+◌, ◌-◌, ◌*◌}
use native.Mathlib.Omega.{arith}
use mathlib.Core.Path.{◌≡◌, refl, ap, ◌∙◌}
use mathlib.Core.List.{List}
use Rattle.bitstream.specs.Reading.{Outcome, got, refused}
use Rattle.bitstream.specs.Answer.{IfGot}
use Rattle.huffman.specs.Tree.{Tree, huffman_tree, nodes_of}
use Rattle.huffman.proofs.Trees.{tree_read, some_leaf}
use Rattle.stored_trees.specs.Answer.{leaves_of}

-- `load_tree`, by its answer: no leaf, and no tree; or the tree, its table, and the place behind it
pub loaded_none : (o : Outcome Tree) (n : ℕ) → n ≡ leaves_of o → n ≡ 0 → (k : ℕ) × (e : ℕ) × (o ≡ refused k e)
loaded_none (got t e) n a z = absurd (omega (arith, a, z, some_leaf t))
loaded_none (refused k e) n a z = (k, e, refl)

pub loaded_next : (p : List ℕ) (at n : ℕ) (new : List ℕ) → n ≡ leaves_of (huffman_tree p at) → (n ≡ 0 → ⊥) → IfGot (λ t. new ≡ nodes_of t) (huffman_tree p at)
    → (t : Tree) × (huffman_tree p at ≡ got t (at + 7 * n - 1)) × (new ≡ nodes_of t)
unfolding huffman_tree
loaded_next p at n new a z f = go (huffman_tree p at) refl a f
  where
    go : (o : Outcome Tree) → huffman_tree p at ≡ o → n ≡ leaves_of o → IfGot (λ t. new ≡ nodes_of t) o → (t : Tree) × (huffman_tree p at ≡ got t (at + 7 * n - 1)) × (new ≡ nodes_of t)
    go (got t e) r x y = let w : e ≡ at + 7 * n - 1 = omega (arith, (tree_read 32 0 p at r).ends, x) in (t, r ∙ ap (got t) w, y)
    go (refused k e) r x y = absurd (z x)

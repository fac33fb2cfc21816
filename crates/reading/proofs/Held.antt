-- The trees of a loaded setup, as the reader of tokens asks for them. Assumes nothing.
use Prim.Native.Nat.{ℕ, suc, ◌<◌}
use native.Mathlib.Omega.{arith}
use mathlib.Core.Path.{◌≡◌, refl, ◌∙◌}
use mathlib.Core.List.{List, [], ◌∷◌, ◌++◌}
use lib.ListN.{length, get_or}
use Rattle.huffman.specs.Tree.{Tree, leaf, Proper, nodes_of}
use Rattle.quantization.specs.Layout.{laid}
use Rattle.setup_trees.proofs.Loop.{proper_padded}
use Rattle.setup.proofs.Held.{held_nodes, trees_whole}
use Rattle.setup.specs.Header.{Setup}
use Rattle.setup.specs.Loaded.{Holds}
use Rattle.setup.specs.declared.LoadedSetup.{LoadedSetup}
use Rattle.tokens.specs.Answer.{tables_of, AllProper, Tables, trees_of}
use Rattle.tokens.proofs.Tables.{trees_of_law}

-- ---- its trees
all_proper : (ts : List Tree) → ((k : ℕ) → k < length ts → Proper (get_or ts k (leaf 0))) → AllProper ts
all_proper [] h = tt
all_proper (t ∷ ts) h = (h 0 (omega arith), all_proper ts (λ k l. h (suc k) (omega arith)))

laid_tables : (ts : List Tree) → AllProper ts → laid nodes_of ts ≡ tables_of ts
unfolding laid tables_of
laid_tables [] h = refl
laid_tables (t ∷ ts) h = let e = proper_padded h.0 in let f = laid_tables ts h.1 in λ i. e i ++ f i

pub trees_proper : (trees : List Tree) → length trees ≡ 80 → ((k : ℕ) → k < 80 → Proper (get_or trees k (leaf 0))) → AllProper trees
trees_proper trees l h = all_proper trees (λ k v. h k (omega arith))

module _ (t : List ℕ) (l : LoadedSetup) {s : Setup} (h : Holds t l s) where
  pub tables_held : Tables l.nodes
  tables_held =
      let w = trees_whole t h.reads in
      let p = trees_proper s.trees w.0 w.1 in
      record { trees = s.trees; count = w.0; proper = p; there = held_nodes t l h ∙ laid_tables s.trees p }

  pub trees_held : trees_of l.nodes ≡ s.trees
  unfolding tables_held
  trees_held = trees_of_law l.nodes tables_held

-- For callers: what the answer of `read_tree` says. Assumes nothing.
use Prim.Native.Nat.{ℕ}
use native.Mathlib.Omega.{arith}
use mathlib.Core.Path.{◌≡◌}
use mathlib.Core.List.{List}
use Rattle.bitstream.specs.Reading.{Outcome, got, refused}
use Rattle.huffman.specs.Tree.{Tree, nodes_of}
use Rattle.huffman.specs.Answer.{nodes_after}
use Rattle.bitstream.specs.Answer.{as_end}
use Rattle.bitstream.specs.declared.End.{End}
use Rattle.bitstream.specs.declared.End.TheVariants.{Refused, At}

-- `read_tree`, by its arm: the tree that was got and its table, or the refusal and the table as it was
pub tree_next : (o : Outcome Tree) (old new : List ℕ) {r : End} {e : ℕ} → r ≡ as_end o → new ≡ nodes_after old o → r ≡ At e → (t : Tree) × (o ≡ got t e) × (new ≡ nodes_of t)
tree_next (got t d) old new s n g = (t, cc, n)
tree_next (refused k d) old new s n g = let z : ◌≡◌ {A = ℕ} 0 1 = cc in absurd (omega arith)

pub tree_refused : (o : Outcome Tree) (old new : List ℕ) {r : End} {k e : ℕ} → r ≡ as_end o → new ≡ nodes_after old o → r ≡ Refused k e → (o ≡ refused k e) × (new ≡ old)
tree_refused (got t d) old new s n g = let z : ◌≡◌ {A = ℕ} 0 1 = cc in absurd (omega arith)
tree_refused (refused k d) old new s n g = (cc, n)

-- Whose matrices are kept. Assumes nothing.
use Prim.Native.Nat.{ℕ, zero, suc, ◌≤◌, ◌<◌}
use native.Mathlib.Omega.{arith}
use mathlib.Core.Path.{◌≡◌, ap, ◌∙◌}
use mathlib.Core.Bool.{Bool, true, ◌&&◌}
use mathlib.Core.List.{List}
use lib.Dec.{eqb}
use lib.ListN.{get_or}
use borrow.Author.Tests.{eqb-true}
use Rattle.bitstream.proofs.ListLaws.{and_both}
use Rattle.quantization.specs.declared.LoadedParameters.{LoadedParameters}
use Rattle.matrices.specs.Matrix.{matrix_of}
use Rattle.matrices.specs.All.{AllMatricesAre}
use Rattle.reconstruct.specs.Lent.{matrix_in}
use Rattle.kept_matrices.specs.Kept.{MatricesAre, same_list}

-- an empty list has no matrices
pub none_are : (p : List ℕ) (l : LoadedParameters) (qis : List ℕ) {count : ℕ} (ms : List ℕ) → count ≡ 0 → MatricesAre p l qis count ms
none_are p l qis ms z q h type plane index t b n = absurd (omega arith)

-- matrices that were made are as a frame's blocks look for them
pub all_are : (p : List ℕ) (l : LoadedParameters) (qis : List ℕ) (count : ℕ) (ms : List ℕ) → AllMatricesAre p l qis count ms → MatricesAre p l qis count ms
unfolding matrix_in
all_are p l qis count ms are q h type plane index t b n = are type plane index t b n q h

-- two lists that are the same
module _ (a b : List ℕ) (n m : ℕ) (same : same_list a n b m ≡ true) where
  abbrev two : Bool
  two = eqb n m && eqb (get_or a 0 0) (get_or b 0 0)

  abbrev three : Bool
  three = two && eqb (get_or a 1 0) (get_or b 1 0)

  first_three : three ≡ true
  first_three = (and_both three (eqb (get_or a 2 0) (get_or b 2 0)) same).0

  first_two : two ≡ true
  first_two = (and_both two (eqb (get_or a 1 0) (get_or b 1 0)) first_three).0

  same_count : n ≡ m
  same_count = eqb-true n m (and_both (eqb n m) (eqb (get_or a 0 0) (get_or b 0 0)) first_two).0

  same_qi : (index : ℕ) → index < 3 → get_or a index 0 ≡ get_or b index 0
  same_qi zero l = eqb-true _ _ (and_both (eqb n m) (eqb (get_or a 0 0) (get_or b 0 0)) first_two).1
  same_qi (suc zero) l = eqb-true _ _ (and_both two (eqb (get_or a 1 0) (get_or b 1 0)) first_three).1
  same_qi (suc (suc zero)) l = eqb-true _ _ (and_both three (eqb (get_or a 2 0) (get_or b 2 0)) same).1
  same_qi (suc (suc (suc index))) l = absurd (omega arith)

  -- have the same matrices
  pub same_are : (p : List ℕ) (l : LoadedParameters) (ms : List ℕ) → m ≤ 3 → MatricesAre p l a n ms → MatricesAre p l b m ms
  same_are p l ms few are q h type plane index t c below =
      are q h type plane index t c (omega (arith, same_count)) ∙ ap (matrix_of q type plane) (same_qi index (omega arith))

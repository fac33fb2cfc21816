-- The calls by the lengths of their lists. Assumes nothing.
use Prim.Native.Nat.{ℕ}
use mathlib.Core.Path.{◌≡◌, sym, ap, ap₂, ◌∙◌}
use mathlib.Core.List.{List}
use lib.ListN.{length, set}
use borrow.Author.Tests.{eq-eqb}
use Rattle.setup.specs.declared.SetupAnswer.{SetupAnswer}
use Rattle.setup.specs.Table.{setup_outcome, as_setup_answer, table_after}
use Rattle.table_queries.specs.declared.MatrixAnswer.{MatrixAnswer}
use Rattle.queries.specs.Found.{Found, is, absent, refused as no_table}
use Rattle.table_queries.specs.Setup.{table_matrix, matrix_into, as_matrix, leaving}
use Rattle.session_list.specs.List.{Returned, gives, answers}
use Rattle.session_list.proofs.Lists.{only}
use Rattle.theora_c.specs.Face.{setup_returned, setup_call, matrix_found, matrix_call}
use Rattle.answer_lists.specs.Lists.{matrix_returned}

-- the setup call, from what `setup` answers and leaves
module _ (packet old new place : List ℕ) (l : length place ≡ 1) {a : SetupAnswer} (h : (a ≡ as_setup_answer (setup_outcome (length old) packet)) × (new ≡ table_after old packet)) where
  setup_made : setup_returned new a ≡ setup_call packet old place
  unfolding setup_call
  setup_made = rw (eq-eqb _ _ l) (ap₂ setup_returned h.1 h.0)

  pub setup_accepted : a ≡ SetupAnswer.Accepted → answers 0 new (set place 0 0) ≡ setup_call packet old place
  setup_accepted e = ap (answers 0 new) (only place 0 l) ∙ sym (ap (setup_returned new) e) ∙ setup_made

  pub setup_refused : {k e : ℕ} → a ≡ SetupAnswer.Refused k e → answers k new (set place 0 e) ≡ setup_call packet old place
  setup_refused {k} {e} f = ap (answers k new) (only place e l) ∙ sym (ap (setup_returned new) f) ∙ setup_made

-- the matrix call, from what `matrix` answers and leaves in a slice of its own, which was `fresh`
matrix_found_law : (old fresh new : List ℕ) (x : Found (List ℕ)) {r : MatrixAnswer} → (r ≡ as_matrix x) × (new ≡ leaving fresh x) → matrix_returned old new r ≡ matrix_found old x
matrix_found_law old fresh new (is m) h = ap (matrix_returned old new) h.0 ∙ ap (gives 0) h.1
matrix_found_law old fresh new absent h = ap (matrix_returned old new) h.0
matrix_found_law old fresh new (no_table k) h = ap (matrix_returned old new) h.0

module _ (t fresh new old : List ℕ) (type plane qi : ℕ) where
  into : length fresh ≡ 64 → matrix_into fresh t type plane qi ≡ table_matrix t type plane qi
  unfolding matrix_into
  into h = rw (eq-eqb _ _ h)

  pub matrix_made : length fresh ≡ 64 → {r : MatrixAnswer} {y : Returned} → (r ≡ as_matrix (matrix_into fresh t type plane qi)) × (new ≡ leaving fresh (matrix_into fresh t type plane qi))
      → length old ≡ 64 → y ≡ matrix_returned old new r → y ≡ matrix_call t type plane qi old
  unfolding matrix_call
  matrix_made z h l e = rw (eq-eqb _ _ l) (e ∙ matrix_found_law old fresh new (matrix_into fresh t type plane qi) h ∙ ap (matrix_found old) (into z))

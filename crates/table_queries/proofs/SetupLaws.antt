-- The calls on a table memory, one law for each way that they go. Assumes nothing.
use Prim.Native.Nat.{ℕ, ◌≤◌, ◌<◌}
use mathlib.Core.Path.{◌≡◌, refl, sym, ap, ◌∙◌}
use mathlib.Core.List.{List}
use mathlib.Core.Bool.{true, false, ◌&&◌}
use lib.Dec.{ltb}
use lib.ListN.{length, get_or}
use borrow.Author.Tests.{eq-eqb, ne_eqb, lt-ltb, le-ltb, ltb-true}
use Rattle.bitstream.specs.Reading.{got}
use Rattle.bitstream.proofs.ListLaws.{and_both}
use Rattle.bitstream.specs.declared.End.TheVariants.{Refused, At}
use Rattle.matrices.specs.Matrix.{MatrixIs}
use Rattle.setup.specs.Header.{Setup}
use Rattle.setup.specs.Loaded.{as_setup_read}
use Rattle.setup.specs.Table.{table_bytes, held_setup}
use Rattle.setup.specs.declared.SetupRead.{SetupRead}
use Rattle.setup.proofs.Held.{held_8, held_limits, held_parameters, genuine_setup, genuine_held, genuine_holds}
use Rattle.queries.specs.Found as found
use Rattle.queries.specs.Found.{Found, is, absent}
use Rattle.table_queries.specs.Setup.{on_table, table_limit, has_matrix, table_matrix, matrix_into, as_matrix, leaving}

-- ---- by the setup that a table memory holds
module _ {A : Type 0} (t : List ℕ) (f : Setup → Found A) where
  other_length : (length t ≡ table_bytes → ⊥) → on_table t f ≡ found.refused 1
  unfolding on_table
  other_length h = rw (ne_eqb _ _ h)

  on_other : length t ≡ table_bytes → {r : SetupRead} {k e : ℕ} → r ≡ as_setup_read (held_setup t) → r.place ≡ Refused k e → on_table t f ≡ found.refused 8
  unfolding on_table
  on_other h a n = rw (eq-eqb _ _ h, held_8 t a n)

  on_held : length t ≡ table_bytes → {s : Setup} {e : ℕ} → held_setup t ≡ got s e → on_table t f ≡ f s
  unfolding on_table
  on_held h g = rw (eq-eqb _ _ h, g)

-- ---- a memory that no setup packet leaves
module _ (t : List ℕ) where
  pub limit_1 : (qi : ℕ) → (length t ≡ table_bytes → ⊥) → table_limit t qi ≡ found.refused 1
  unfolding table_limit
  limit_1 qi h = other_length t _ h

  pub matrix_1 : (type plane qi : ℕ) → (length t ≡ table_bytes → ⊥) → table_matrix t type plane qi ≡ found.refused 1
  unfolding table_matrix
  matrix_1 type plane qi h = other_length t _ h

  pub limit_8 : (qi : ℕ) → length t ≡ table_bytes → {r : SetupRead} {k e : ℕ} → r ≡ as_setup_read (held_setup t) → r.place ≡ Refused k e → table_limit t qi ≡ found.refused 8
  unfolding table_limit
  limit_8 qi h a n = on_other t _ h a n

  pub matrix_8 : (type plane qi : ℕ) → length t ≡ table_bytes → {r : SetupRead} {k e : ℕ} → r ≡ as_setup_read (held_setup t) → r.place ≡ Refused k e → table_matrix t type plane qi ≡ found.refused 8
  unfolding table_matrix
  matrix_8 type plane qi h a n = on_other t _ h a n

-- ---- a memory that is genuine
module _ (t : List ℕ) {r : SetupRead} {e : ℕ} (a : r ≡ as_setup_read (held_setup t)) (g : r.place ≡ At e) where
  pub limit_absent : (qi : ℕ) → length t ≡ table_bytes → 64 ≤ qi → table_limit t qi ≡ absent
  unfolding table_limit
  limit_absent qi h q = on_held t _ h (genuine_held t a g) ∙ rw (le-ltb _ _ q)

  pub matrix_absent : (type plane qi : ℕ) → length t ≡ table_bytes → has_matrix type plane qi ≡ false → table_matrix t type plane qi ≡ absent
  unfolding table_matrix
  matrix_absent type plane qi h q = on_held t _ h (genuine_held t a g) ∙ rw q

  pub limit_is : (qi : ℕ) → length t ≡ table_bytes → qi < 64 → table_limit t qi ≡ is (get_or r.setup.limits qi 0)
  unfolding table_limit
  limit_is qi h q = on_held t _ h (genuine_held t a g) ∙ rw (lt-ltb _ _ q) (ap (λ (x : List ℕ). is (get_or x qi 0)) (sym (held_limits t r.setup (genuine_holds t a g))))

  pub matrix_is : (type plane qi : ℕ) (new : List ℕ) → length t ≡ table_bytes → has_matrix type plane qi ≡ true
      → MatrixIs t r.setup.parameters type plane qi new → table_matrix t type plane qi ≡ is new
  unfolding table_matrix
  matrix_is type plane qi new h q u = on_held t _ h (genuine_held t a g) ∙ rw q (ap is (sym (u (genuine_setup t a g).parameters (held_parameters t r.setup (genuine_holds t a g)))))

-- ---- the numbers of a matrix
pub has_matrix_law : (type plane qi : ℕ) → has_matrix type plane qi ≡ true → (type < 2) × (plane < 3) × (qi < 64)
has_matrix_law type plane qi h =
    let k = and_both (ltb type 2 && ltb plane 3) (ltb qi 64) h in
    let j = and_both (ltb type 2) (ltb plane 3) k.0 in
    (ltb-true _ _ j.0, ltb-true _ _ j.1, ltb-true _ _ k.1)

module _ (old t : List ℕ) (type plane qi : ℕ) where
  abbrev Answered : Found (List ℕ) → Type 0
  Answered x = (as_matrix x ≡ as_matrix (matrix_into old t type plane qi)) × (leaving old x ≡ leaving old (matrix_into old t type plane qi))

  pub answered : length old ≡ 64 → {x : Found (List ℕ)} → table_matrix t type plane qi ≡ x → Answered x
  unfolding matrix_into
  answered h e = rw (eq-eqb _ _ h) (sym (ap as_matrix e), sym (ap (leaving old) e))

  pub answered_1 : (length old ≡ 64 → ⊥) → Answered (found.refused 1)
  unfolding matrix_into
  answered_1 h = rw (ne_eqb _ _ h) (refl, refl)

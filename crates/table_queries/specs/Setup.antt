-- What a table memory's setup says: a loop limit, a quantization matrix.
use Rattle.std.specs.Prelude.{ℕ, Bool, ◌&&◌, List, eqb, ltb, length}
use Rattle.bitstream.specs.Reading.{Outcome, got, refused, choose}
use Rattle.bitstream.specs.Numbers.{wrong_length}
use Rattle.matrices.specs.Matrix.{matrix_of}
use Rattle.setup.specs.Header.{Setup}
use Rattle.setup.specs.Table.{table_bytes, held_setup}
use Rattle.setup.specs.Loaded.{limit_of}
use Rattle.queries.specs.Found as found
use Rattle.queries.specs.Found.{Found, is, absent, provided}
use Rattle.table_queries.specs.declared.MatrixAnswer.{MatrixAnswer}

-- what is found in a setup that was read; else the number of the refusal
abbrev pub in_setup : {A : Type 0} → (Setup → Found A) → Outcome Setup → Found A
in_setup f (got s e) = f s
in_setup f (refused k e) = found.refused k

-- "a lent length differs from the published one" is 1, then "no accepted setup packet leaves this table memory" is 8
unfoldable pub on_table : {A : Type 0} → List ℕ → (Setup → Found A) → Found A
on_table t f = choose (eqb (length t) table_bytes) (in_setup f (held_setup t)) (found.refused wrong_length)

-- the loop limit of a qi
unfoldable pub table_limit : List ℕ → ℕ → Found ℕ
table_limit t qi = on_table t (λ s. provided (ltb qi 64) (limit_of s qi))

-- there is such a type, plane and qi
abbrev pub has_matrix : ℕ → ℕ → ℕ → Bool
has_matrix type plane qi = ltb type 2 && ltb plane 3 && ltb qi 64

-- the matrix of a type (0 intra, 1 inter), a plane and a qi, in natural order
unfoldable pub table_matrix : List ℕ → ℕ → ℕ → ℕ → Found (List ℕ)
table_matrix t type plane qi = on_table t (λ s. provided (has_matrix type plane qi) (matrix_of s.parameters type plane qi))

-- the same for a lent slice, which has 64 numbers
unfoldable pub matrix_into : List ℕ → List ℕ → ℕ → ℕ → ℕ → Found (List ℕ)
matrix_into old t type plane qi = choose (eqb (length old) 64) (table_matrix t type plane qi) (found.refused wrong_length)

-- the answer, and what the slice holds afterwards: a call that finds no matrix leaves it as it was
abbrev pub as_matrix : Found (List ℕ) → MatrixAnswer
as_matrix (is m) = MatrixAnswer.Is
as_matrix absent = MatrixAnswer.Absent
as_matrix (found.refused k) = MatrixAnswer.Refused k

abbrev pub leaving : List ℕ → Found (List ℕ) → List ℕ
leaving old (is m) = m
leaving old absent = old
leaving old (found.refused k) = old

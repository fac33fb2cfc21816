-- What `table_queries::loop_limit` and `matrix` promise, as the checker reads it out of the source: they ask nothing, and what they ensure is said by
-- `table_limit` and `matrix_into`. A weaker contract makes a theorem fail. Assumes nothing.
use mathlib.Core.Path.{◌≡◌, refl}
use seplogic.Ra.Ura.{Ura}
use base.Logic.{SProp}
use prog.Memory.{Memory}
use prog.Routine.{Routine}
use types.Logic.{Logic}
use contract.Monad.{Fun}
use contract.Lifetimes.{Lfts}
use contract.Notation as notation
use denote.Triple.Entry.{Args, Res}
use denote.Triple.Clauses.{AtExit}
use Prim.Native.Nat.{ℕ}
use mathlib.Core.List.{List}
use Rattle.queries.specs.Found.{Found}
use Rattle.queries.specs.Orders.{as_number}
use Rattle.table_queries.specs.Setup.{table_limit, matrix_into, as_matrix, leaving}
use Rattle.table_queries.specs.contracts.loop_limit as loop_limit
use Rattle.table_queries.specs.contracts.matrix as matrix

module _ {M : Type 1} {𝓤 : Ura M} (𝓛 : Logic 𝓤) (mem : Memory → SProp 𝓤) (run : Routine → Fun 𝓤) where
  open notation.connectives 𝓤 use {⌜◌⌝, ⊤ₛ, ◌∗◌}

  -- ---- loop_limit(table, qi)
  module _ (κs : Lfts 1) (a : Args loop_limit.signature κs) where
    pub loop_limit_asks_nothing : (loop_limit.clauses 𝓛 mem run κs a).requires tt ≡ ⊤ₛ
    loop_limit_asks_nothing = refl

    pub loop_limit_promises : (r : Res loop_limit.signature κs) (e : AtExit loop_limit.ended κs)
        → (loop_limit.clauses 𝓛 mem run κs a).ensures tt r e ≡ ⌜ r ≡ as_number (table_limit a.0.now a.1.0) ⌝
    loop_limit_promises r e = refl

  -- ---- matrix(table, qti, plane, qi, out)
  module _ (κs : Lfts 2) (a : Args matrix.signature κs) where
    pub matrix_asks_nothing : (matrix.clauses 𝓛 mem run κs a).requires tt ≡ ⊤ₛ
    matrix_asks_nothing = refl

    abbrev values : Found (List ℕ)
    values = matrix_into a.1.1.1.1.0.now a.0.now a.1.0 a.1.1.0 a.1.1.1.0

    pub matrix_promises : (r : Res matrix.signature κs) (e : AtExit matrix.ended κs)
        → (matrix.clauses 𝓛 mem run κs a).ensures tt r e ≡ (⌜ r ≡ as_matrix values ⌝ ∗ ⌜ e.1.1.1.1.0.now ≡ leaving a.1.1.1.1.0.now values ⌝)
    matrix_promises r e = refl

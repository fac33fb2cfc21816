-- What the calls of `setup` promise, as the checker reads it out of the source: they ask nothing, and what they ensure is said by `setup_outcome`,
-- `table_after`, `held_setup` and `is_table`. A weaker contract makes a theorem fail. Assumes nothing.
use mathlib.Core.Path.{◌≡◌, refl}
use lib.ListN.{length}
use seplogic.Ra.Ura.{Ura}
use base.Logic.{SProp}
use prog.Memory.{Memory}
use prog.Routine.{Routine}
use types.Logic.{Logic}
use contract.Monad.{Fun}
use contract.Lifetimes.{Lfts}
use contract.Notation as notation
use denote.Triple.Entry.{Args, Res}
use denote.Triple.Clauses.{AtExit}
use Rattle.setup.specs.Loaded.{as_setup_read}
use Rattle.setup.specs.Table.{setup_outcome, as_setup_answer, table_after, held_setup, is_table, LeftBySome}
use Rattle.setup.specs.contracts.setup as setup
use Rattle.setup.specs.contracts.load_table as load_table
use Rattle.setup.specs.contracts.table_is_genuine as table_is_genuine

module _ {M : Type 1} {𝓤 : Ura M} (𝓛 : Logic 𝓤) (mem : Memory → SProp 𝓤) (run : Routine → Fun 𝓤) where
  open notation.connectives 𝓤 use {⌜◌⌝, ⊤ₛ, ◌∗◌}

  -- ---- setup(packet, table)
  module _ (κs : Lfts 2) (a : Args setup.signature κs) where
    pub setup_asks_nothing : (setup.clauses 𝓛 mem run κs a).requires tt ≡ ⊤ₛ
    setup_asks_nothing = refl

    pub setup_promises : (r : Res setup.signature κs) (e : AtExit setup.ended κs)
        → (setup.clauses 𝓛 mem run κs a).ensures tt r e
        ≡ (⌜ r ≡ as_setup_answer (setup_outcome (length a.1.0.now) a.0.now) ⌝ ∗ ⌜ e.1.0.now ≡ table_after a.1.0.now a.0.now ⌝)
    setup_promises r e = refl

  -- ---- load_table(table)
  module _ (κs : Lfts 1) (a : Args load_table.signature κs) where
    pub load_table_asks_nothing : (load_table.clauses 𝓛 mem run κs a).requires tt ≡ ⊤ₛ
    load_table_asks_nothing = refl

    pub load_table_promises : (r : Res load_table.signature κs) (e : AtExit load_table.ended κs)
        → (load_table.clauses 𝓛 mem run κs a).ensures tt r e ≡ ⌜ r ≡ as_setup_read (held_setup a.0.now) ⌝
    load_table_promises r e = refl

  -- ---- table_is_genuine(table)
  module _ (κs : Lfts 1) (a : Args table_is_genuine.signature κs) where
    pub table_is_genuine_asks_nothing : (table_is_genuine.clauses 𝓛 mem run κs a).requires tt ≡ ⊤ₛ
    table_is_genuine_asks_nothing = refl

    pub table_is_genuine_promises : (r : Res table_is_genuine.signature κs) (e : AtExit table_is_genuine.ended κs)
        → (table_is_genuine.clauses 𝓛 mem run κs a).ensures tt r e ≡ (⌜ r ≡ is_table a.0.now ⌝ ∗ ⌜ LeftBySome r a.0.now ⌝)
    table_is_genuine_promises r e = refl

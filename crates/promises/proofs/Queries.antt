-- What the calls of `queries` promise, as the checker reads it out of the source: they ask nothing, and what they ensure is said by the definitions of Orders.
-- A weaker contract makes a theorem fail. Assumes nothing.
use mathlib.Core.Path.{◌≡◌, refl}
use seplogic.Ra.Ura.{Ura}
use base.Logic.{SProp}
use prog.Memory.{Memory}
use prog.Routine.{Routine}
use types.Logic.{Logic}
use contract.Monad.{Fun}
use contract.Lifetimes.{Lfts}
use contract.Notation as notation
use denote.Triple.Entry.{Args, Res}
use denote.Triple.Clauses.{AtExit}
use Rattle.geometry.specs.Frame.{block}
use Rattle.queries.specs.Orders as orders
use Rattle.queries.specs.Orders.{as_block, as_place, as_number}
use Rattle.queries.specs.contracts.block_at as block_at
use Rattle.queries.specs.contracts.block_number as block_number
use Rattle.queries.specs.contracts.macro_block_at as macro_block_at
use Rattle.queries.specs.contracts.macro_block_number as macro_block_number
use Rattle.queries.specs.contracts.macro_block_of as macro_block_of
use Rattle.queries.specs.contracts.sample_offset as sample_offset

module _ {M : Type 1} {𝓤 : Ura M} (𝓛 : Logic 𝓤) (mem : Memory → SProp 𝓤) (run : Routine → Fun 𝓤) where
  open notation.connectives 𝓤 use {⌜◌⌝, ⊤ₛ}

  -- ---- block_at(s, i)
  module _ (κs : Lfts 0) (a : Args block_at.signature κs) where
    pub block_at_asks_nothing : (block_at.clauses 𝓛 mem run κs a).requires tt ≡ ⊤ₛ
    block_at_asks_nothing = refl

    pub block_at_promises : (r : Res block_at.signature κs) (e : AtExit block_at.ended κs)
        → (block_at.clauses 𝓛 mem run κs a).ensures tt r e ≡ ⌜ r ≡ as_block (orders.block_at a.0 a.1.0) ⌝
    block_at_promises r e = refl

  -- ---- block_number(s, plane, x, y)
  module _ (κs : Lfts 0) (a : Args block_number.signature κs) where
    pub block_number_asks_nothing : (block_number.clauses 𝓛 mem run κs a).requires tt ≡ ⊤ₛ
    block_number_asks_nothing = refl

    pub block_number_promises : (r : Res block_number.signature κs) (e : AtExit block_number.ended κs)
        → (block_number.clauses 𝓛 mem run κs a).ensures tt r e ≡ ⌜ r ≡ as_number (orders.block_number a.0 (block a.1.0 a.1.1.0 a.1.1.1.0)) ⌝
    block_number_promises r e = refl

  -- ---- macro_block_at(s, i)
  module _ (κs : Lfts 0) (a : Args macro_block_at.signature κs) where
    pub macro_block_at_asks_nothing : (macro_block_at.clauses 𝓛 mem run κs a).requires tt ≡ ⊤ₛ
    macro_block_at_asks_nothing = refl

    pub macro_block_at_promises : (r : Res macro_block_at.signature κs) (e : AtExit macro_block_at.ended κs)
        → (macro_block_at.clauses 𝓛 mem run κs a).ensures tt r e ≡ ⌜ r ≡ as_place (orders.macro_block_at a.0 a.1.0) ⌝
    macro_block_at_promises r e = refl

  -- ---- macro_block_number(s, x, y)
  module _ (κs : Lfts 0) (a : Args macro_block_number.signature κs) where
    pub macro_block_number_asks_nothing : (macro_block_number.clauses 𝓛 mem run κs a).requires tt ≡ ⊤ₛ
    macro_block_number_asks_nothing = refl

    pub macro_block_number_promises : (r : Res macro_block_number.signature κs) (e : AtExit macro_block_number.ended κs)
        → (macro_block_number.clauses 𝓛 mem run κs a).ensures tt r e ≡ ⌜ r ≡ as_number (orders.macro_block_number a.0 a.1.0 a.1.1.0) ⌝
    macro_block_number_promises r e = refl

  -- ---- macro_block_of(s, plane, x, y)
  module _ (κs : Lfts 0) (a : Args macro_block_of.signature κs) where
    pub macro_block_of_asks_nothing : (macro_block_of.clauses 𝓛 mem run κs a).requires tt ≡ ⊤ₛ
    macro_block_of_asks_nothing = refl

    pub macro_block_of_promises : (r : Res macro_block_of.signature κs) (e : AtExit macro_block_of.ended κs)
        → (macro_block_of.clauses 𝓛 mem run κs a).ensures tt r e ≡ ⌜ r ≡ as_place (orders.macro_block_of a.0 (block a.1.0 a.1.1.0 a.1.1.1.0)) ⌝
    macro_block_of_promises r e = refl

  -- ---- sample_offset(s, plane, x, y, column, row)
  module _ (κs : Lfts 0) (a : Args sample_offset.signature κs) where
    pub sample_offset_asks_nothing : (sample_offset.clauses 𝓛 mem run κs a).requires tt ≡ ⊤ₛ
    sample_offset_asks_nothing = refl

    pub sample_offset_promises : (r : Res sample_offset.signature κs) (e : AtExit sample_offset.ended κs)
        → (sample_offset.clauses 𝓛 mem run κs a).ensures tt r e
        ≡ ⌜ r ≡ as_number (orders.sample_offset a.0 (block a.1.0 a.1.1.0 a.1.1.1.0) a.1.1.1.1.0 a.1.1.1.1.1.0) ⌝
    sample_offset_promises r e = refl

-- What the calls of `theora` promise, as the checker reads it out of the source: they ask nothing, and what they ensure is said by `identification`,
-- `setup_outcome`, `table_after`, `session_sizes`, `work_lengths` and `by_rules`. A weaker contract makes a theorem fail. Assumes nothing.
use mathlib.Core.Path.{◌≡◌, refl}
use lib.ListN.{length}
use seplogic.Ra.Ura.{Ura}
use base.Logic.{SProp}
use prog.Memory.{Memory}
use prog.Routine.{Routine}
use types.Logic.{Logic}
use contract.Monad.{Fun}
use contract.Lifetimes.{Lfts}
use contract.Notation as notation
use denote.Triple.Entry.{Args, Res}
use denote.Triple.Clauses.{AtExit}
use Rattle.headers.specs.Identification.{identification as said_by, as_identification}
use Rattle.headers.specs.Sizes.{session_sizes}
use Rattle.setup.specs.Table.{setup_outcome, as_setup_answer, table_after}
use Rattle.work_memory.specs.Memory.{Memory as WorkMemory, memory}
use Rattle.ways.specs.Ways.{first_way}
use Rattle.asked_frame.specs.Answer.{State, Done, state, done}
use Rattle.calls.specs.Call.{Call, call, by_rules}
use Rattle.theora.specs.Lengths.{work_lengths as lengths_for}
use Rattle.theora.specs.contracts.identification as identification
use Rattle.theora.specs.contracts.setup as setup
use Rattle.theora.specs.contracts.sizes as sizes
use Rattle.theora.specs.contracts.work_lengths as work_lengths
use Rattle.theora.specs.contracts.frame as frame

module _ {M : Type 1} {𝓤 : Ura M} (𝓛 : Logic 𝓤) (mem : Memory → SProp 𝓤) (run : Routine → Fun 𝓤) where
  open notation.connectives 𝓤 use {⌜◌⌝, ⊤ₛ, ◌∗◌}

  -- ---- identification(packet)
  module _ (κs : Lfts 1) (a : Args identification.signature κs) where
    pub identification_asks_nothing : (identification.clauses 𝓛 mem run κs a).requires tt ≡ ⊤ₛ
    identification_asks_nothing = refl

    pub identification_promises : (r : Res identification.signature κs) (e : AtExit identification.ended κs)
        → (identification.clauses 𝓛 mem run κs a).ensures tt r e ≡ ⌜ r ≡ as_identification (said_by a.0.now 0) ⌝
    identification_promises r e = refl

  -- ---- setup(packet, table)
  module _ (κs : Lfts 2) (a : Args setup.signature κs) where
    pub setup_asks_nothing : (setup.clauses 𝓛 mem run κs a).requires tt ≡ ⊤ₛ
    setup_asks_nothing = refl

    pub setup_promises : (r : Res setup.signature κs) (e : AtExit setup.ended κs)
        → (setup.clauses 𝓛 mem run κs a).ensures tt r e
        ≡ (⌜ r ≡ as_setup_answer (setup_outcome (length a.1.0.now) a.0.now) ⌝ ∗ ⌜ e.1.0.now ≡ table_after a.1.0.now a.0.now ⌝)
    setup_promises r e = refl

  -- ---- sizes(s)
  module _ (κs : Lfts 0) (a : Args sizes.signature κs) where
    pub sizes_asks_nothing : (sizes.clauses 𝓛 mem run κs a).requires tt ≡ ⊤ₛ
    sizes_asks_nothing = refl

    pub sizes_promises : (r : Res sizes.signature κs) (e : AtExit sizes.ended κs)
        → (sizes.clauses 𝓛 mem run κs a).ensures tt r e ≡ ⌜ r ≡ session_sizes a.0 ⌝
    sizes_promises r e = refl

  -- ---- work_lengths(s)
  module _ (κs : Lfts 0) (a : Args work_lengths.signature κs) where
    pub work_lengths_asks_nothing : (work_lengths.clauses 𝓛 mem run κs a).requires tt ≡ ⊤ₛ
    work_lengths_asks_nothing = refl

    pub work_lengths_promises : (r : Res work_lengths.signature κs) (e : AtExit work_lengths.ended κs)
        → (work_lengths.clauses 𝓛 mem run κs a).ensures tt r e ≡ ⌜ r ≡ lengths_for a.0 ⌝
    work_lengths_promises r e = refl

  -- ---- frame(s, packet, table, records .. active, golden, previous, new)
  module _ (κs : Lfts 15) (a : Args frame.signature κs) where
    pub frame_asks_nothing : (frame.clauses 𝓛 mem run κs a).requires tt ≡ ⊤ₛ
    frame_asks_nothing = refl

    -- work memory as lent, and as left
    abbrev lent : WorkMemory
    lent =
        let b = a.1.1.1 in
        let c = b.1.1.1.1.1 in
        memory b.0.now b.1.0.now b.1.1.0.now b.1.1.1.0.now b.1.1.1.1.0.now c.0.now c.1.0.now c.1.1.0.now c.1.1.1.0.now c.1.1.1.1.0.now

    abbrev left : AtExit frame.ended κs → WorkMemory
    left e =
        let b = e.1.1.1 in
        let c = b.1.1.1.1.1 in
        memory b.0.now b.1.0.now b.1.1.0.now b.1.1.1.0.now b.1.1.1.1.0.now c.0.now c.1.0.now c.1.1.0.now c.1.1.1.0.now c.1.1.1.1.0.now

    -- what the call got, and what it was lent
    abbrev got : State
    got =
        let b = a.1.1.1.1.1.1.1.1.1.1.1.1 in
        state a.0 b.1.0.now b.1.1.0.now

    abbrev brought : Call
    brought = call a.1.0.now a.1.1.0.now lent a.1.1.1.1.1.1.1.1.1.1.1.1.1.1.1.0.now

    -- what it answered, and what it left
    abbrev after : Res frame.signature κs → AtExit frame.ended κs → Done
    after r e = done r e.1.1.1.1.1.1.1.1.1.1.1.1.1.1.1.0.now (left e)

    pub frame_promises : (r : Res frame.signature κs) (e : AtExit frame.ended κs)
        → (frame.clauses 𝓛 mem run κs a).ensures tt r e ≡ ⌜ after r e ≡ by_rules first_way got brought ⌝
    frame_promises r e = refl

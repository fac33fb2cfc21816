-- What `shot::shot` promises, as the checker reads it out of the source: it asks nothing, and what it ensures is said by `by_shot`.
-- A weaker contract makes a theorem fail. Assumes nothing.
use mathlib.Core.Path.{◌≡◌, refl}
use seplogic.Ra.Ura.{Ura}
use base.Logic.{SProp}
use prog.Memory.{Memory}
use prog.Routine.{Routine}
use types.Logic.{Logic}
use contract.Monad.{Fun}
use contract.Lifetimes.{Lfts}
use contract.Notation as notation
use denote.Triple.Entry.{Args, Res}
use denote.Triple.Clauses.{AtExit}
use Rattle.ways.specs.Ways.{first_way}
use Rattle.work_memory.specs.Memory.{Memory as WorkMemory, memory}
use Rattle.opening.specs.Call.{ShotCall, shot_call}
use Rattle.shot.specs.Call.{ShotDone, shot_done, by_shot}
use Rattle.shot.specs.contracts.shot as shot

module _ {M : Type 1} {𝓤 : Ura M} (𝓛 : Logic 𝓤) (mem : Memory → SProp 𝓤) (run : Routine → Fun 𝓤) where
  open notation.connectives 𝓤 use {⌜◌⌝, ⊤ₛ}

  -- ---- shot(s, names, lengths, packets, table, records .. active, first, second, third, answers)
  module _ (κs : Lfts 17) (a : Args shot.signature κs) where
    pub shot_asks_nothing : (shot.clauses 𝓛 mem run κs a).requires tt ≡ ⊤ₛ
    shot_asks_nothing = refl

    -- work memory as lent, and as left
    abbrev lent : WorkMemory
    lent =
        let b = a.1.1.1.1.1 in
        let c = b.1.1.1.1.1 in
        memory b.0.now b.1.0.now b.1.1.0.now b.1.1.1.0.now b.1.1.1.1.0.now c.0.now c.1.0.now c.1.1.0.now c.1.1.1.0.now c.1.1.1.1.0.now

    abbrev left : AtExit shot.ended κs → WorkMemory
    left e =
        let b = e.1.1.1.1.1 in
        let c = b.1.1.1.1.1 in
        memory b.0.now b.1.0.now b.1.1.0.now b.1.1.1.0.now b.1.1.1.1.0.now c.0.now c.1.0.now c.1.1.0.now c.1.1.1.0.now c.1.1.1.1.0.now

    -- what the call was lent
    abbrev brought : ShotCall
    brought =
        let b = a.1.1.1.1.1.1.1.1.1.1.1.1.1.1.1 in
        shot_call a.0 a.1.0 a.1.1.0.now a.1.1.1.0.now a.1.1.1.1.0.now lent b.0.now b.1.0.now b.1.1.0.now b.1.1.1.0.now

    -- what it answered, and what it left
    abbrev after : Res shot.signature κs → AtExit shot.ended κs → ShotDone
    after r e =
        let b = e.1.1.1.1.1.1.1.1.1.1.1.1.1.1.1 in
        shot_done r b.0.now b.1.0.now b.1.1.0.now (left e) b.1.1.1.0.now

    pub shot_promises : (r : Res shot.signature κs) (e : AtExit shot.ended κs)
        → (shot.clauses 𝓛 mem run κs a).ensures tt r e ≡ ⌜ after r e ≡ by_shot first_way brought ⌝
    shot_promises r e = refl

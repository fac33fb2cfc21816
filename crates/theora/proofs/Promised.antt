-- What `theora::frame` itself promises, as the checker reads it out of the source: it asks nothing, and what it ensures is `FramePromise` of what it was lent
-- and of what it leaves. So the claim about lists of calls speaks of the function, and fails with its contract. Assumes nothing.
use mathlib.Core.Path.{◌≡◌, refl}
use seplogic.Ra.Ura.{Ura}
use base.Logic.{SProp}
use prog.Memory.{Memory}
use prog.Routine.{Routine}
use types.Logic.{Logic}
use contract.Monad.{Fun}
use contract.Lifetimes.{Lfts}
use contract.Notation as notation
use denote.Triple.Entry.{Args, Res}
use denote.Triple.Clauses.{AtExit}
use Rattle.work_memory.specs.Memory.{memory}
use Rattle.asked_frame.specs.Answer.{State, Done, state, done}
use Rattle.calls.specs.Call.{Call, call, FramePromise}
use Rattle.theora.specs.contracts.frame as frame

module _ {M : Type 1} {𝓤 : Ura M} (𝓛 : Logic 𝓤) (mem : Memory → SProp 𝓤) (run : Routine → Fun 𝓤) (κs : Lfts 15) where
  open notation.connectives 𝓤 use {⌜◌⌝, ⊤ₛ}

  module _ (a : Args frame.signature κs) where
    -- what the call got, and what it was lent
    abbrev got : State
    got = state a.0 a.1.1.1.1.1.1.1.1.1.1.1.1.1.0.now a.1.1.1.1.1.1.1.1.1.1.1.1.1.1.0.now

    abbrev brought : Call
    brought =
        call a.1.0.now a.1.1.0.now
        (memory a.1.1.1.0.now a.1.1.1.1.0.now a.1.1.1.1.1.0.now a.1.1.1.1.1.1.0.now a.1.1.1.1.1.1.1.0.now
        a.1.1.1.1.1.1.1.1.0.now a.1.1.1.1.1.1.1.1.1.0.now a.1.1.1.1.1.1.1.1.1.1.0.now
        a.1.1.1.1.1.1.1.1.1.1.1.0.now a.1.1.1.1.1.1.1.1.1.1.1.1.0.now)
        a.1.1.1.1.1.1.1.1.1.1.1.1.1.1.1.0.now

    -- what it answered, and what it left
    abbrev left : Res frame.signature κs → AtExit frame.ended κs → Done
    left r e =
        done r e.1.1.1.1.1.1.1.1.1.1.1.1.1.1.1.0.now
        (memory e.1.1.1.0.now e.1.1.1.1.0.now e.1.1.1.1.1.0.now e.1.1.1.1.1.1.0.now e.1.1.1.1.1.1.1.0.now
        e.1.1.1.1.1.1.1.1.0.now e.1.1.1.1.1.1.1.1.1.0.now e.1.1.1.1.1.1.1.1.1.1.0.now
        e.1.1.1.1.1.1.1.1.1.1.1.0.now e.1.1.1.1.1.1.1.1.1.1.1.1.0.now)

    pub asks_nothing : (frame.clauses 𝓛 mem run κs a).requires tt ≡ ⊤ₛ
    asks_nothing = refl

    pub frame_promises : (r : Res frame.signature κs) (e : AtExit frame.ended κs) → (frame.clauses 𝓛 mem run κs a).ensures tt r e ≡ ⌜ FramePromise got brought (left r e) ⌝
    frame_promises r e = refl

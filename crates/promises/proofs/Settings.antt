-- What `settings::write` and `settings::read` promise, as the checker reads it out of the source: they ask nothing, and what they ensure is said by
-- `settings_text` and `read`. A weaker contract makes a theorem fail. Assumes nothing.
use mathlib.Core.Path.{◌≡◌, refl}
use lib.ListN.{length}
use seplogic.Ra.Ura.{Ura}
use base.Logic.{SProp}
use prog.Memory.{Memory}
use prog.Routine.{Routine}
use types.Logic.{Logic}
use contract.Monad.{Fun}
use contract.Lifetimes.{Lfts}
use contract.Notation as notation
use denote.Triple.Entry.{Args, Res}
use denote.Triple.Clauses.{AtExit}
use Rattle.output.specs.Output.{Output, left_by, as_written}
use Rattle.settings.specs.Settings.{settings_text, as_loaded, read as said_by}
use Rattle.settings.specs.contracts.write as write
use Rattle.settings.specs.contracts.read as read

module _ {M : Type 1} {𝓤 : Ura M} (𝓛 : Logic 𝓤) (mem : Memory → SProp 𝓤) (run : Routine → Fun 𝓤) where
  open notation.connectives 𝓤 use {⌜◌⌝, ⊤ₛ, ◌∗◌}

  -- ---- write(version, s, out)
  module _ (κs : Lfts 1) (a : Args write.signature κs) where
    pub settings_write_asks_nothing : (write.clauses 𝓛 mem run κs a).requires tt ≡ ⊤ₛ
    settings_write_asks_nothing = refl

    abbrev text : Output
    text = settings_text a.0 a.1.0 (length a.1.1.0.now)

    pub settings_write_promises : (r : Res write.signature κs) (e : AtExit write.ended κs)
        → (write.clauses 𝓛 mem run κs a).ensures tt r e ≡ (⌜ r ≡ as_written text ⌝ ∗ ⌜ e.1.1.0.now ≡ left_by text a.1.1.0.now ⌝)
    settings_write_promises r e = refl

  -- ---- read(version, text, in_use)
  module _ (κs : Lfts 1) (a : Args read.signature κs) where
    pub settings_read_asks_nothing : (read.clauses 𝓛 mem run κs a).requires tt ≡ ⊤ₛ
    settings_read_asks_nothing = refl

    pub settings_read_promises : (r : Res read.signature κs) (e : AtExit read.ended κs)
        → (read.clauses 𝓛 mem run κs a).ensures tt r e ≡ ⌜ r ≡ as_loaded a.1.1.0 (said_by a.0 a.1.0.now) ⌝
    settings_read_promises r e = refl

-- What `rgb::convert` promises, as the checker reads it out of the source: it asks nothing, and what it ensures is said by `picture_for`.
-- A weaker contract makes a theorem fail. Assumes nothing.
use mathlib.Core.Path.{◌≡◌, refl}
use lib.ListN.{length}
use seplogic.Ra.Ura.{Ura}
use base.Logic.{SProp}
use prog.Memory.{Memory}
use prog.Routine.{Routine}
use types.Logic.{Logic}
use contract.Monad.{Fun}
use contract.Lifetimes.{Lfts}
use contract.Notation as notation
use denote.Triple.Entry.{Args, Res}
use denote.Triple.Clauses.{AtExit}
use Rattle.output.specs.Output.{Output, left_by, as_written}
use Rattle.rgb.specs.Picture.{picture_for}
use Rattle.rgb.specs.contracts.convert as convert

module _ {M : Type 1} {𝓤 : Ura M} (𝓛 : Logic 𝓤) (mem : Memory → SProp 𝓤) (run : Routine → Fun 𝓤) where
  open notation.connectives 𝓤 use {⌜◌⌝, ⊤ₛ, ◌∗◌}

  -- ---- convert(s, planes, out)
  module _ (κs : Lfts 2) (a : Args convert.signature κs) where
    pub convert_asks_nothing : (convert.clauses 𝓛 mem run κs a).requires tt ≡ ⊤ₛ
    convert_asks_nothing = refl

    abbrev rgb : Output
    rgb = picture_for a.0 a.1.0.now (length a.1.1.0.now)

    pub convert_promises : (r : Res convert.signature κs) (e : AtExit convert.ended κs)
        → (convert.clauses 𝓛 mem run κs a).ensures tt r e ≡ (⌜ r ≡ as_written rgb ⌝ ∗ ⌜ e.1.1.0.now ≡ left_by rgb a.1.1.0.now ⌝)
    convert_promises r e = refl

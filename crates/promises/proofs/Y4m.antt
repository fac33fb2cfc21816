-- What the calls of `y4m` promise, as the checker reads it out of the source: they ask nothing, and what they ensure is said by `stream_for`, `header_for`,
-- `frame_for` and `film_in`. A weaker contract makes a theorem fail. Assumes nothing.
use mathlib.Core.Path.{◌≡◌, refl}
use lib.ListN.{length}
use seplogic.Ra.Ura.{Ura}
use base.Logic.{SProp}
use prog.Memory.{Memory}
use prog.Routine.{Routine}
use types.Logic.{Logic}
use contract.Monad.{Fun}
use contract.Lifetimes.{Lfts}
use contract.Notation as notation
use denote.Triple.Entry.{Args, Res}
use denote.Triple.Clauses.{AtExit}
use Rattle.output.specs.Output.{Output, left_by, as_written}
use Rattle.y4m.specs.Stream.{stream_for, header_for, frame_for}
use Rattle.y4m.specs.Film.{Holds, film_in, as_film, planes_by}
use Rattle.y4m.specs.contracts.write as write
use Rattle.y4m.specs.contracts.write_header as write_header
use Rattle.y4m.specs.contracts.write_frame as write_frame
use Rattle.y4m.specs.contracts.read as read

module _ {M : Type 1} {𝓤 : Ura M} (𝓛 : Logic 𝓤) (mem : Memory → SProp 𝓤) (run : Routine → Fun 𝓤) where
  open notation.connectives 𝓤 use {⌜◌⌝, ⊤ₛ, ◌∗◌}

  -- ---- write(s, frames, out)
  module _ (κs : Lfts 2) (a : Args write.signature κs) where
    pub y4m_write_asks_nothing : (write.clauses 𝓛 mem run κs a).requires tt ≡ ⊤ₛ
    y4m_write_asks_nothing = refl

    abbrev write_gives : Output
    write_gives = stream_for a.0 a.1.0.now (length a.1.1.0.now)

    pub y4m_write_promises : (r : Res write.signature κs) (e : AtExit write.ended κs)
        → (write.clauses 𝓛 mem run κs a).ensures tt r e ≡ (⌜ r ≡ as_written write_gives ⌝ ∗ ⌜ e.1.1.0.now ≡ left_by write_gives a.1.1.0.now ⌝)
    y4m_write_promises r e = refl

  -- ---- write_header(s, out)
  module _ (κs : Lfts 1) (a : Args write_header.signature κs) where
    pub y4m_write_header_asks_nothing : (write_header.clauses 𝓛 mem run κs a).requires tt ≡ ⊤ₛ
    y4m_write_header_asks_nothing = refl

    abbrev write_header_gives : Output
    write_header_gives = header_for a.0 (length a.1.0.now)

    pub y4m_write_header_promises : (r : Res write_header.signature κs) (e : AtExit write_header.ended κs)
        → (write_header.clauses 𝓛 mem run κs a).ensures tt r e ≡ (⌜ r ≡ as_written write_header_gives ⌝ ∗ ⌜ e.1.0.now ≡ left_by write_header_gives a.1.0.now ⌝)
    y4m_write_header_promises r e = refl

  -- ---- write_frame(s, planes, out)
  module _ (κs : Lfts 2) (a : Args write_frame.signature κs) where
    pub y4m_write_frame_asks_nothing : (write_frame.clauses 𝓛 mem run κs a).requires tt ≡ ⊤ₛ
    y4m_write_frame_asks_nothing = refl

    abbrev write_frame_gives : Output
    write_frame_gives = frame_for a.0 a.1.0.now (length a.1.1.0.now)

    pub y4m_write_frame_promises : (r : Res write_frame.signature κs) (e : AtExit write_frame.ended κs)
        → (write_frame.clauses 𝓛 mem run κs a).ensures tt r e ≡ (⌜ r ≡ as_written write_frame_gives ⌝ ∗ ⌜ e.1.1.0.now ≡ left_by write_frame_gives a.1.1.0.now ⌝)
    y4m_write_frame_promises r e = refl

  -- ---- read(stream, planes)
  module _ (κs : Lfts 2) (a : Args read.signature κs) where
    pub y4m_read_asks_nothing : (read.clauses 𝓛 mem run κs a).requires tt ≡ ⊤ₛ
    y4m_read_asks_nothing = refl

    abbrev contents : Holds
    contents = film_in a.0.now (length a.1.0.now)

    pub y4m_read_promises : (r : Res read.signature κs) (e : AtExit read.ended κs)
        → (read.clauses 𝓛 mem run κs a).ensures tt r e ≡ (⌜ r ≡ as_film contents ⌝ ∗ ⌜ e.1.0.now ≡ planes_by contents a.1.0.now ⌝)
    y4m_read_promises r e = refl

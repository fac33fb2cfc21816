-- Names that fit are sound, and so are those of a session without references. Assumes nothing.
use mathlib.Core.Path.{◌≡◌, refl, sym, ◌∙◌}
use mathlib.Core.Bool.{Bool, true, false, ◌&&◌}
use lib.Dec.{ltb}
use borrow.Author.Tests.{ltb-true}
use Rattle.bitstream.specs.Reading.{choose}
use Rattle.headers.specs.declared.Session.{Session}
use Rattle.bitstream.proofs.ListLaws.{and_both}
use Rattle.buffer_names.specs.declared.Names.{Names}
use Rattle.buffer_names.specs.Names.{names, names_of, names_fit, Sound}
use Rattle.buffer_names.proofs.Free.{none}

pub sound_first : (s : Session) (n : Names) → names_fit s n ≡ true → Sound s (names_of s n)
sound_first s n h = go s.references refl h
  where
    go : (t : Bool) → s.references ≡ t → choose t (ltb n.golden 3 && ltb n.previous 3) true ≡ true → Sound s (choose t n (names 3 3))
    go true e h = let b = and_both (ltb n.golden 3) (ltb n.previous 3) h in record { named = λ _. (ltb-true _ _ b.0, ltb-true _ _ b.1); unnamed = λ f. none (sym e ∙ f) }
    go false e h = record { named = λ f. none (sym f ∙ e); unnamed = λ _. refl }

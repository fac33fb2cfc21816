-- What is said after the last packet, one law for each way. Assumes nothing.
use Prim.Native.Nat.{ℕ, ◌≤◌, ◌<◌}
use mathlib.Core.Path.{◌≡◌, sym}
use mathlib.Core.Bool.{true, false}
use mathlib.Core.List.{List}
use lib.ListN.{length}
use borrow.Author.Tests.{lt-ltb, le-ltb}
use Rattle.watching.specs.declared.Watched.{Watched}
use Rattle.check_answer.specs.declared.CheckAnswer.TheVariants.{Passes, Differs, Refused}
use Rattle.check_answer.specs.Said.{said_by}

module _ (w : Watched) (file : List ℕ) where
  pub says_refused : w.refused ≡ true → Refused w.number w.bit ≡ said_by w file
  unfolding said_by
  says_refused h = sym (rw h)

  module _ (h : w.refused ≡ false) where
    pub says_differs : w.compared.differs ≡ true → Differs w.compared.place ≡ said_by w file
    unfolding said_by
    says_differs d = sym (rw (h, d))

    module _ (d : w.compared.differs ≡ false) where
      pub says_longer : w.compared.place < length file → Differs w.compared.place ≡ said_by w file
      unfolding said_by
      says_longer l = sym (rw (h, d, lt-ltb w.compared.place (length file) l))

      pub says_passes : length file ≤ w.compared.place → Passes ≡ said_by w file
      unfolding said_by
      says_passes l = sym (rw (h, d, le-ltb w.compared.place (length file) l))

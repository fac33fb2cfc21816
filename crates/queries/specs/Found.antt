-- What a call that asks for a place in a session's frames finds.
use Rattle.std.specs.Prelude.{ℕ, zero, suc, Bool, List, [], ◌∷◌}
use Rattle.bitstream.specs.Reading.{choose}
use Rattle.bitstream.specs.Numbers.{not_genuine}
use Rattle.headers.specs.declared.Session.{Session}
use Rattle.headers.specs.Fits.{session_fits}

-- the thing; the frame has no such thing; a refusal by its number
pub data Found (A : Type 0) : Type 0 where
  is : A → Found A
  absent : Found A
  refused : ℕ → Found A

-- "Size calls: identification part of 8": number 8 for a session that does not fit
unfoldable pub on_session : {A : Type 0} → Session → Found A → Found A
on_session s x = choose (session_fits s) x (refused not_genuine)

-- a, where the test holds
abbrev pub provided : {A : Type 0} → Bool → A → Found A
provided b a = choose b (is a) absent

-- element i of a list, counted from 0
unfoldable pub element : {A : Type 0} → ℕ → List A → Found A
element i [] = absent
element zero (a ∷ l) = is a
element (suc i) (a ∷ l) = element i l

-- the number of the first element that passes the test
abbrev pub next : Found ℕ → Found ℕ
next (is i) = is (suc i)
next absent = absent
next (refused k) = refused k

unfoldable pub position : {A : Type 0} → (A → Bool) → List A → Found ℕ
position test [] = absent
position test (a ∷ l) = choose (test a) (is 0) (next (position test l))

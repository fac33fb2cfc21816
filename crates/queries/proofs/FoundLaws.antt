-- Elements of a list and their positions. Assumes nothing.
use Prim.Native.Nat.{ℕ, zero, suc, ◌≤◌, ◌<◌}
use native.Mathlib.Nat.{le_of_suc-le-suc, not-suc-le-zero}
use native.Mathlib.Omega.{arith}
use mathlib.Core.Path.{◌≡◌, refl, ap}
use mathlib.Core.List.{List, [], ◌∷◌}
use mathlib.Core.Bool.{Bool, true, false}
use lib.ListN.{length, get_or}
use Rattle.headers.specs.declared.Session.{Session}
use Rattle.headers.specs.Fits.{session_fits}
use Rattle.queries.specs.Found.{Found, is, absent, refused, on_session, element, position, next}

module _ {A : Type 0} (s : Session) (x : Found A) where
  pub fits_on : session_fits s ≡ true → on_session s x ≡ x
  unfolding on_session
  fits_on h = rw h

  pub unfit_on : session_fits s ≡ false → on_session s x ≡ refused 8
  unfolding on_session
  unfit_on h = rw h

pub element_is : {A : Type 0} (l : List A) (i : ℕ) (d : A) → i < length l → element i l ≡ is (get_or l i d)
unfolding element
element_is [] i d h = absurd (not-suc-le-zero h)
element_is (a ∷ l) zero d h = refl
element_is (a ∷ l) (suc i) d h = element_is l i d (le_of_suc-le-suc h)

pub element_absent : {A : Type 0} (l : List A) (i : ℕ) → length l ≤ i → element i l ≡ absent
unfolding element
element_absent [] i h = refl
element_absent (a ∷ l) zero h = absurd (not-suc-le-zero h)
element_absent (a ∷ l) (suc i) h = element_absent l i (le_of_suc-le-suc h)

-- the first element that passes stands at r
pub position_is : {A : Type 0} (test : A → Bool) (l : List A) (r : ℕ) (d : A) → r < length l → test (get_or l r d) ≡ true
    → ((j : ℕ) → j < r → test (get_or l j d) ≡ false) → position test l ≡ is r
unfolding position
position_is test [] r d h t n = absurd (not-suc-le-zero h)
position_is test (a ∷ l) zero d h t n = rw t
position_is test (a ∷ l) (suc r) d h t n =
    rw (n zero (omega arith)) (ap next (position_is test l r d (le_of_suc-le-suc h) t (λ j k. n (suc j) (omega arith))))

-- no element passes
pub position_absent : {A : Type 0} (test : A → Bool) (l : List A) (d : A) → ((j : ℕ) → j < length l → test (get_or l j d) ≡ false) → position test l ≡ absent
unfolding position
position_absent test [] d n = refl
position_absent test (a ∷ l) d n = rw (n zero (omega arith)) (ap next (position_absent test l d (λ j k. n (suc j) (omega arith))))

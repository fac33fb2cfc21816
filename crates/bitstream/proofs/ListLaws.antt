-- Laws of `All` and `Once`: by places, and of lists made of others; of choices and of joined tests. Assumes nothing.
use Prim.Native.Nat.{ℕ, zero, suc, ◌+◌, ◌<◌}
use native.Mathlib.Omega.{arith}
use native.Mathlib.Nat.{le_of_suc-le-suc, not-suc-le-zero}
use native.Mathlib.Numerals.{add-one}
use mathlib.Core.Path.{◌≡◌, refl, sym, ap, ◌∙◌, subst}
use mathlib.Core.Bool.{Bool, true, false, ◌&&◌, false≢true}
use mathlib.Core.List.{List, [], ◌∷◌, ◌++◌}
use lib.Dec.{eqb}
use lib.ListN.{length, get_or, set, take, drop, replicate}
use lib.Seq.{drop-cons, take_at}
use borrow.Author.Tests.{eq-eqb, ne_eqb}
use Rattle.bitstream.specs.Reading.{choose}
use Rattle.bitstream.specs.Lists.{All, none, one, Other, Once, empty, more}

-- two tests that hold
pub and_both : (a b : Bool) → (a && b) ≡ true → (a ≡ true) × (b ≡ true)
and_both true b h = (refl, h)
and_both false b h = absurd (false≢true h)

-- a choice by two numbers
module _ {X : Type 0} (a b : ℕ) (x y : X) where
  pub if_equal : a ≡ b → x ≡ choose (eqb a b) x y
  if_equal h = rw (eq-eqb a b h)

  pub if_other : (a ≡ b → ⊥) → y ≡ choose (eqb a b) x y
  if_other h = rw (ne_eqb a b h)

-- what is left of a list, by its first
pub drop_next : (l : List ℕ) (i : ℕ) → i < length l → drop i l ≡ get_or l i 0 ∷ drop (i + 1) l
drop_next l i h = drop-cons l i 0 h ∙ ap (λ (n : ℕ). get_or l i 0 ∷ drop n l) (sym (add-one i))

-- an element of a list in which one was set: the new one at its place, and else the old one
pub set_cases : {A : Type 0} (P : A → Type 0) (l : List A) (b n : ℕ) (v d : A) → (b ≡ n → P v) → P (get_or l n d) → P (get_or (set l b v) n d)
set_cases P [] b n v d new old = old
set_cases P (x ∷ l) zero zero v d new old = new refl
set_cases P (x ∷ l) zero (suc n) v d new old = old
set_cases P (x ∷ l) (suc b) zero v d new old = old
set_cases P (x ∷ l) (suc b) (suc n) v d new old = set_cases P l b n v d (λ e. new (ap suc e)) old

-- the front of a list is as long as it was
pub front_length : (q behind : List ℕ) (n : ℕ) → length q ≡ n → n ≡ length (take n (q ++ behind))
front_length q behind n e = sym (ap length (take_at q behind n e) ∙ e)

module _ {P : ℕ → Type 0} where
  pub all_append : {l m : List ℕ} → All P l → All P m → All P (l ++ m)
  all_append none b = b
  all_append (one h a) b = one h (all_append a b)

  pub all_replicate : (k x : ℕ) → P x → All P (replicate k x)
  all_replicate zero x h = none
  all_replicate (suc k) x h = one h (all_replicate k x h)

  -- at each place, and from each place
  pub all_at : {l : List ℕ} (i : ℕ) → All P l → i < length l → P (get_or l i 0)
  all_at i none h = absurd (not-suc-le-zero h)
  all_at zero (one k a) h = k
  all_at (suc i) (one k a) h = all_at i a (le_of_suc-le-suc h)

  pub all_of : (l : List ℕ) → ((i : ℕ) → i < length l → P (get_or l i 0)) → All P l
  all_of [] f = none
  all_of (x ∷ l) f = one (f 0 (omega arith)) (all_of l (λ i h. f (suc i) (omega arith)))

pub once_of : (l : List ℕ) → ((i j : ℕ) → i < length l → j < length l → get_or l i 0 ≡ get_or l j 0 → i ≡ j) → Once l
once_of [] f = empty
once_of (x ∷ l) f =
    more (all_of l (λ j h e. let z : 0 ≡ suc j = f 0 (suc j) (omega arith) (omega arith) e in omega arith))
    (once_of l (λ i j hi hj e. let z : suc i ≡ suc j = f (suc i) (suc j) (omega arith) (omega arith) e in omega arith))

pub once_at : {l : List ℕ} → Once l → (i j : ℕ) → i < length l → j < length l → get_or l i 0 ≡ get_or l j 0 → i ≡ j
once_at empty i j hi hj e = absurd (not-suc-le-zero hi)
once_at (more a o) zero zero hi hj e = refl
once_at (more a o) zero (suc j) hi hj e = absurd (all_at j a (le_of_suc-le-suc hj) e)
once_at (more a o) (suc i) zero hi hj e = absurd (all_at i a (le_of_suc-le-suc hi) (sym e))
once_at (more a o) (suc i) (suc j) hi hj e = ap suc (once_at o i j (le_of_suc-le-suc hi) (le_of_suc-le-suc hj) e)

pub once_drop : {l : List ℕ} (i : ℕ) → Once l → Once (drop i l)
once_drop zero o = o
once_drop (suc i) empty = empty
once_drop (suc i) (more a o) = once_drop i o

-- the first of a list, and the first of what is left, does not stand again
once_first : {x : ℕ} {l : List ℕ} → Once (x ∷ l) → All (Other x) l
once_first (more a o) = a

pub once_next : (l : List ℕ) (i : ℕ) → Once l → i < length l → All (Other (get_or l i 0)) (drop (i + 1) l)
once_next l i o h = once_first (subst Once (drop_next l i h) (once_drop i o))

-- Texts that are the same. Assumes nothing.
use mathlib.Core.Path.{◌≡◌, refl, sym, ap, ◌∙◌}
use mathlib.Core.Bool.{Bool, true, false, ◌&&◌, false≢true}
use mathlib.Core.List.{List, [], ◌∷◌}
use Prim.Native.Nat.{ℕ, suc, ◌+◌, ◌≤◌, ◌<◌}
use native.Mathlib.Numerals.{add-one}
use lib.Dec.{eqb}
use borrow.Author.Tests.{eqb-true, eq-eqb, ne_eqb}
use lib.ListN.{length, get_or, drop, drop_of_length-le}
use lib.Seq.{drop-cons}
use Rattle.text.specs.Same.{same}

pub same_refl : (l : List ℕ) → same l l ≡ true
unfolding same
same_refl [] = refl
same_refl (a ∷ l) = rw (eq-eqb a a refl) (same_refl l)

pub and_left : (a b : Bool) → a && b ≡ true → a ≡ true
and_left true b h = refl
and_left false b h = h

pub and_right : (a b : Bool) → a && b ≡ true → b ≡ true
and_right true b h = h
and_right false b h = absurd (false≢true h)

pub same_eq : (l m : List ℕ) → same l m ≡ true → l ≡ m
unfolding same
same_eq [] [] h = refl
same_eq [] (b ∷ m) h = absurd (false≢true h)
same_eq (a ∷ l) [] h = absurd (false≢true h)
same_eq (a ∷ l) (b ∷ m) h =
    let x = eqb-true a b (and_left (eqb a b) (same l m) h) in
    let y = same_eq l m (and_right (eqb a b) (same l m) h) in
    λ i. x i ∷ y i

not_both : (b : Bool) → (b ≡ true → ⊥) → b ≡ false
not_both true h = absurd (h refl)
not_both false h = refl

-- texts that are not equal are not the same
pub same_not : (l m : List ℕ) → (l ≡ m → ⊥) → same l m ≡ false
same_not l m h = not_both (same l m) (λ e. h (same_eq l m e))

-- texts of different lengths
pub same_lengths : (l m : List ℕ) → (length l ≡ length m → ⊥) → same l m ≡ false
same_lengths l m h = same_not l m (λ e. h (ap (λ (x : List ℕ). length x) e))

same_cons : (a b : ℕ) (l m : List ℕ) → same (a ∷ l) (b ∷ m) ≡ (eqb a b && same l m)
unfolding same
same_cons a b l m = refl

module _ (l m : List ℕ) (i : ℕ) (h : i < length l) (g : i < length m) where
  at_place : same (drop i l) (drop i m) ≡ (eqb (get_or l i 0) (get_or m i 0) && same (drop (i + 1) l) (drop (i + 1) m))
  at_place = (λ j. same (drop-cons l i 0 h j) (drop-cons m i 0 g j)) ∙ same_cons (get_or l i 0) (get_or m i 0) (drop (suc i) l) (drop (suc i) m)
      ∙ ap (λ (n : ℕ). eqb (get_or l i 0) (get_or m i 0) && same (drop n l) (drop n m)) (sym (add-one i))

  -- one byte more is the same
  pub same_more : get_or l i 0 ≡ get_or m i 0 → same (drop i l) (drop i m) ≡ same (drop (i + 1) l) (drop (i + 1) m)
  same_more e = at_place ∙ ap (λ (b : Bool). b && same (drop (i + 1) l) (drop (i + 1) m)) (eq-eqb (get_or l i 0) (get_or m i 0) e)

  -- and one is not
  pub same_less : (get_or l i 0 ≡ get_or m i 0 → ⊥) → same (drop i l) (drop i m) ≡ false
  same_less e = at_place ∙ ap (λ (b : Bool). b && same (drop (i + 1) l) (drop (i + 1) m)) (ne_eqb (get_or l i 0) (get_or m i 0) e)

-- nothing is left of either
pub same_end : (l m : List ℕ) (i : ℕ) → length l ≤ i → length m ≤ i → same (drop i l) (drop i m) ≡ true
unfolding same
same_end l m i h g = λ j. same (drop_of_length-le l h j) (drop_of_length-le m g j)

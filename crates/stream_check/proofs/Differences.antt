-- The first place at which two lists differ. Assumes nothing.
use Prim.Native.Nat.{ℕ, zero, suc, ◌+◌, ◌≤◌, ◌<◌, min}
use native.Mathlib.Omega.{arith}
use native.Mathlib.Nat.{zero-add}
use mathlib.Core.Path.{◌≡◌, refl, sym, ap}
use mathlib.Core.Bool.{Bool, true, false, ◌&&◌}
use mathlib.Core.List.{List, [], ◌∷◌, ◌++◌}
use lib.Dec.{eqb, leb}
use lib.ListN.{length, get_or, drop}
use borrow.Author.Tests.{eq-eqb, ne_eqb, eqb-true, eqb-false, leb-true, leb-false, le-leb, lt-leb}
use Rattle.bitstream.specs.Reading.{choose}
use Rattle.stream_check.specs.Compared.{difference}

-- it lies in both, or at their ends
pub within_want : (want file : List ℕ) → difference want file ≤ length want
unfolding difference
within_want [] file = omega arith
within_want (a ∷ want) [] = omega arith
within_want (a ∷ want) (b ∷ file) = go (eqb a b) (within_want want file)
  where
    go : (t : Bool) → difference want file ≤ length want → choose t (suc (difference want file)) 0 ≤ suc (length want)
    go true h = omega arith
    go false h = omega arith

pub within_file : (want file : List ℕ) → difference want file ≤ length file
unfolding difference
within_file [] file = omega arith
within_file (a ∷ want) [] = omega arith
within_file (a ∷ want) (b ∷ file) = go (eqb a b) (within_file want file)
  where
    go : (t : Bool) → difference want file ≤ length file → choose t (suc (difference want file)) 0 ≤ suc (length file)
    go true h = omega arith
    go false h = omega arith

-- the same byte: it lies further
pub agree : (want file : List ℕ) (i : ℕ) → i < length want → i < length file → get_or want i 0 ≡ get_or file i 0 → i ≤ difference want file → i < difference want file
unfolding difference
agree [] file i l m e h = absurd (omega arith)
agree (a ∷ want) [] i l m e h = absurd (omega arith)
agree (a ∷ want) (b ∷ file) zero l m e h = rw (eq-eqb a b e) (omega arith)
agree (a ∷ want) (b ∷ file) (suc i) l m e h = go (eqb a b) (λ g. agree want file i (omega arith) (omega arith) e g) h
  where
    go : (t : Bool) → (i ≤ difference want file → i < difference want file) → suc i ≤ choose t (suc (difference want file)) 0 → suc i < choose t (suc (difference want file)) 0
    go true f h = omega (arith, f (omega arith))
    go false f h = absurd (omega arith)

-- another byte: it is here
pub disagree : (want file : List ℕ) (i : ℕ) → i < length want → i < length file → (get_or want i 0 ≡ get_or file i 0 → ⊥) → difference want file ≤ i
unfolding difference
disagree [] file i l m e = absurd (omega arith)
disagree (a ∷ want) [] i l m e = absurd (omega arith)
disagree (a ∷ want) (b ∷ file) zero l m e = rw (ne_eqb a b e) (omega arith)
disagree (a ∷ want) (b ∷ file) (suc i) l m e = go (eqb a b) (disagree want file i (omega arith) (omega arith) e)
  where
    go : (t : Bool) → difference want file ≤ i → choose t (suc (difference want file)) 0 ≤ suc i
    go true h = omega arith
    go false h = omega arith

-- all bytes of the shorter list are the same
pub shorter : (want file : List ℕ) (n : ℕ) → n ≡ min (length want) (length file) → n ≤ difference want file → n ≡ difference want file
shorter want file n e h = let a = within_want want file in let b = within_file want file in omega (arith, a, b, e)

-- one byte more, as a test
module _ (want file : List ℕ) (i : ℕ) (l : i < length want) (m : i < length file) where
  abbrev d : ℕ
  d = difference want file

  abbrev x : ℕ
  x = get_or want i 0

  abbrev y : ℕ
  y = get_or file i 0

  pub further : (leb i d && eqb x y) ≡ leb (i + 1) d
  further = go (leb i d) (eqb x y) refl refl
    where
      go : (p q : Bool) → leb i d ≡ p → eqb x y ≡ q → (p && q) ≡ leb (i + 1) d
      go true true hp hq = let k = agree want file i l m (eqb-true x y hq) (leb-true i d hp) in sym (le-leb (i + 1) d (omega arith))
      go true false hp hq = let k = disagree want file i l m (eqb-false x y hq) in sym (lt-leb (i + 1) d (omega arith))
      go false q hp hq = let k = leb-false i d hp in sym (lt-leb (i + 1) d (omega arith))

-- two parts: the second is compared where the first ends, if it does not differ
pub parts_differ : (a b file : List ℕ) → difference a file < length a → difference (a ++ b) file ≡ difference a file
unfolding difference
parts_differ [] b file h = absurd (omega arith)
parts_differ (p ∷ a) b [] h = refl
parts_differ (p ∷ a) b (q ∷ file) h = go (eqb p q) (parts_differ a b file) h
  where
    go : (t : Bool) → (difference a file < length a → difference (a ++ b) file ≡ difference a file) → choose t (suc (difference a file)) 0 < suc (length a)
        → choose t (suc (difference (a ++ b) file)) 0 ≡ choose t (suc (difference a file)) 0
    go true f h = ap suc (f (omega arith))
    go false f h = refl

pub parts_agree : (a b file : List ℕ) → difference a file ≡ length a → difference (a ++ b) file ≡ length a + difference b (drop (length a) file)
unfolding difference
parts_agree [] b file h = sym (zero-add (difference b file))
parts_agree (p ∷ a) b [] h = absurd (omega arith)
parts_agree (p ∷ a) b (q ∷ file) h = go (eqb p q) (parts_agree a b file) h
  where
    go : (t : Bool) → (difference a file ≡ length a → difference (a ++ b) file ≡ length a + difference b (drop (length a) file)) → choose t (suc (difference a file)) 0 ≡ suc (length a)
        → choose t (suc (difference (a ++ b) file)) 0 ≡ suc (length a) + difference b (drop (length a) file)
    go true f h = omega (arith, f (omega arith))
    go false f h = absurd (omega arith)

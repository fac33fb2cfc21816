-- Laws of reports: adding, and the 64 bits of every number. Assumes nothing.
use Prim.Native.Nat.{ℕ, zero, suc, ◌+◌, ◌^◌, ◌≤◌, ◌<◌}
use native.Mathlib.Omega.{arith}
use mathlib.Core.Path.{◌≡◌, refl, sym, ap, ap₂, ◌∙◌}
use mathlib.Core.Bool.{Bool, true, false, ◌&&◌}
use mathlib.Core.List.{List, [], ◌∷◌}
use lib.Dec.{ltb}
use lib.ListN.{length, get_or, replicate}
use borrow.Author.Tests.{lt-ltb, le-ltb, ltb-true, ltb-false}
use Rattle.bitstream.proofs.ListLaws.{and_both}
use Rattle.report.specs.Report.{plus, fits}

-- ---- lists of the same elements
pub by_elements : (a b : List ℕ) → length a ≡ length b → ((i : ℕ) → i < length a → get_or a i 0 ≡ get_or b i 0) → a ≡ b
by_elements [] [] h e = refl
by_elements [] (y ∷ b) h e = absurd (omega arith)
by_elements (x ∷ a) [] h e = absurd (omega arith)
by_elements (x ∷ a) (y ∷ b) h e = ap₂ {C = List ℕ} (λ u l. u ∷ l) (e zero (omega arith)) (by_elements a b (omega arith) (λ i l. e (suc i) (omega arith)))

-- ---- adding
pub plus_long : (l m : List ℕ) → length l ≡ length m → length (plus l m) ≡ length l
unfolding plus
plus_long [] m h = refl
plus_long (x ∷ l) [] h = absurd (omega arith)
plus_long (x ∷ l) (y ∷ m) h = ap suc (plus_long l m (omega arith))

pub plus_at : (l m : List ℕ) → length l ≡ length m → (i : ℕ) → get_or (plus l m) i 0 ≡ get_or l i 0 + get_or m i 0
unfolding plus
plus_at [] [] h i = refl
plus_at [] (y ∷ m) h i = absurd (omega arith)
plus_at (x ∷ l) [] h i = absurd (omega arith)
plus_at (x ∷ l) (y ∷ m) h zero = refl
plus_at (x ∷ l) (y ∷ m) h (suc i) = plus_at l m (omega arith) i

pub plus_comm : (l m : List ℕ) → plus l m ≡ plus m l
unfolding plus
plus_comm [] [] = refl
plus_comm [] (y ∷ m) = refl
plus_comm (x ∷ l) [] = refl
plus_comm (x ∷ l) (y ∷ m) = let e : x + y ≡ y + x = omega arith in ap₂ {C = List ℕ} (λ u k. u ∷ k) e (plus_comm l m)

pub plus_assoc : (k l m : List ℕ) → plus (plus k l) m ≡ plus k (plus l m)
unfolding plus
plus_assoc [] l m = refl
plus_assoc (x ∷ k) [] m = refl
plus_assoc (x ∷ k) (y ∷ l) [] = refl
plus_assoc (x ∷ k) (y ∷ l) (z ∷ m) = let e : x + y + z ≡ x + (y + z) = omega arith in ap₂ {C = List ℕ} (λ u k. u ∷ k) e (plus_assoc k l m)

-- "two recordings in either order give the sum"
pub plus_swap : (k l m : List ℕ) → plus (plus k l) m ≡ plus (plus k m) l
plus_swap k l m = plus_assoc k l m ∙ ap (plus k) (plus_comm l m) ∙ sym (plus_assoc k m l)

pub plus_none : (l : List ℕ) → plus l (replicate (length l) 0) ≡ l
unfolding plus
plus_none [] = refl
plus_none (x ∷ l) = let e : x + 0 ≡ x = omega arith in ap₂ {C = List ℕ} (λ u k. u ∷ k) e (plus_none l)

-- ---- 64 bits
pub fits_all : (l : List ℕ) → ((i : ℕ) → get_or l i 0 < 2 ^ 64) → fits l ≡ true
unfolding fits
fits_all [] h = refl
fits_all (x ∷ l) h = rw (lt-ltb x (2 ^ 64) (h zero)) (fits_all l (λ i. h (suc i)))

pub fits_not : (l : List ℕ) (i : ℕ) → 2 ^ 64 ≤ get_or l i 0 → fits l ≡ false
unfolding fits
fits_not [] i h = absurd (omega arith)
fits_not (x ∷ l) zero h = rw (le-ltb x (2 ^ 64) h)
fits_not (x ∷ l) (suc i) h = go (ltb x (2 ^ 64)) (fits_not l i h)
  where
    go : (b : Bool) → fits l ≡ false → (b && fits l) ≡ false
    go true e = e
    go false e = refl

pub fits_at : (l : List ℕ) → fits l ≡ true → (i : ℕ) → get_or l i 0 < 2 ^ 64
unfolding fits
fits_at [] h i = omega arith
fits_at (x ∷ l) h zero = ltb-true x (2 ^ 64) (and_both (ltb x (2 ^ 64)) (fits l) h).0
fits_at (x ∷ l) h (suc i) = fits_at l (and_both (ltb x (2 ^ 64)) (fits l) h).1 i

-- counts only grow: what has passed 64 bits has passed them for good
pub past_stays : (l m : List ℕ) → length l ≡ length m → fits l ≡ false → fits (plus l m) ≡ false
unfolding fits plus
past_stays [] m h f = f
past_stays (x ∷ l) [] h f = absurd (omega arith)
past_stays (x ∷ l) (y ∷ m) h f = go (past_stays l m (omega arith)) (ltb x (2 ^ 64)) refl f
  where
    then : (b : Bool) → fits (plus l m) ≡ false → (b && fits (plus l m)) ≡ false
    then true e = e
    then false e = refl

    go : (fits l ≡ false → fits (plus l m) ≡ false) → (b : Bool) → ltb x (2 ^ 64) ≡ b → (b && fits l) ≡ false → (ltb (x + y) (2 ^ 64) && fits (plus l m)) ≡ false
    go rest true t e = then (ltb (x + y) (2 ^ 64)) (rest e)
    go rest false t e = rw (le-ltb (x + y) (2 ^ 64) (omega (arith, ltb-false x (2 ^ 64) t)))

-- A block turned, so that its rows are columns: turned twice it is itself, and a number goes to its other place.
-- Assumes nothing.
use mathlib.Core.Path.{◌≡◌, refl, sym, ap, ap₂, ◌∙◌}
use mathlib.Core.Bool.{Bool, true, false}
use mathlib.Core.List.{List, [], ◌∷◌}
use Prim.Native.Nat.{ℕ, zero, suc, ◌+◌, ◌*◌, ◌/◌, ◌%◌, ◌<◌}
use native.Mathlib.Nat.{add-zero, zero-add, add-suc, suc-add, le_of_suc-le-suc, not-suc-le-zero}
use native.Mathlib.Omega.{arith}
use borrow.Author.Tests.{eqb-true, eqb-false}
use lib.Dec.{eqb}
use lib.IntN.{ℤ, pos}
use lib.ListN.{length, get_or, set, replicate, length-set}
use Rattle.zig_zag.specs.Values.{tabulated}
use Rattle.zig_zag.specs.Placing.{turned}

-- ---- lists by their elements

at_tabulated : (f : ℕ → ℤ) (j n i : ℕ) → i < n → get_or (tabulated f j n) i (pos 0) ≡ f (j + i)
at_tabulated f j zero i h = absurd (not-suc-le-zero h)
at_tabulated f j (suc n) zero h = ap f (sym (add-zero j))
at_tabulated f j (suc n) (suc i) h = at_tabulated f (suc j) n i (le_of_suc-le-suc h) ∙ ap f (suc-add j i ∙ sym (add-suc j i))

pub length_tabulated : (f : ℕ → ℤ) (j n : ℕ) → length (tabulated f j n) ≡ n
length_tabulated f j zero = refl
length_tabulated f j (suc n) = ap suc (length_tabulated f (suc j) n)

pub by_elements : (a b : List ℤ) → length a ≡ length b → ((i : ℕ) → i < length a → get_or a i (pos 0) ≡ get_or b i (pos 0)) → a ≡ b
by_elements [] [] e h = refl
by_elements [] (y ∷ b) e h = absurd (omega arith)
by_elements (x ∷ a) [] e h = absurd (omega arith)
by_elements (x ∷ a) (y ∷ b) e h = ap₂ (λ (z : ℤ) (l : List ℤ). z ∷ l) (h 0 (omega arith)) (by_elements a b (omega arith) (λ i k. h (suc i) (omega arith)))

pub set_other : (s : List ℤ) (j i : ℕ) (v : ℤ) → (i ≡ j → ⊥) → get_or (set s j v) i (pos 0) ≡ get_or s i (pos 0)
set_other [] j i v u = refl
set_other (x ∷ s) zero zero v u = absurd (u refl)
set_other (x ∷ s) zero (suc i) v u = refl
set_other (x ∷ s) (suc j) zero v u = refl
set_other (x ∷ s) (suc j) (suc i) v u = set_other s j i v (λ e. u (ap suc e))

pub set_hit : (s : List ℤ) (j : ℕ) (v : ℤ) → j < length s → get_or (set s j v) j (pos 0) ≡ v
set_hit [] j v h = absurd (not-suc-le-zero h)
set_hit (x ∷ s) zero v h = refl
set_hit (x ∷ s) (suc j) v h = set_hit s j v (le_of_suc-le-suc h)

-- ---- the turned block

abbrev pub swap : ℕ → ℕ
swap i = i % 8 * 8 + i / 8

swap_lt : (i : ℕ) → i < 64 → swap i < 64
swap_lt i h = omega arith

swap_swap : (i : ℕ) → i < 64 → swap (swap i) ≡ i
swap_swap i h = omega arith

pub turned_at : (s : List ℤ) (i : ℕ) → i < 64 → get_or (turned s) i (pos 0) ≡ get_or s (swap i) (pos 0)
unfolding turned
turned_at s i h = at_tabulated (λ (i : ℕ). get_or s (i % 8 * 8 + i / 8) (pos 0)) 0 64 i h ∙ ap (λ (k : ℕ). get_or s (swap k) (pos 0)) (zero-add i)

pub turned_length : (s : List ℤ) → length (turned s) ≡ 64
unfolding turned
turned_length s = length_tabulated (λ (i : ℕ). get_or s (i % 8 * 8 + i / 8) (pos 0)) 0 64

pub turned_twice : (s : List ℤ) → length s ≡ 64 → turned (turned s) ≡ s
turned_twice s e =
    by_elements (turned (turned s)) s (turned_length (turned s) ∙ sym e)
    (λ i h. let k : i < 64 = omega (arith, turned_length (turned s)) in
    turned_at (turned s) i k ∙ turned_at s (swap i) (swap_lt i k) ∙ ap (λ (n : ℕ). get_or s n (pos 0)) (swap_swap i k))

either_place : (s : List ℤ) (i k : ℕ) (v : ℤ) (t : Bool) → eqb k (swap i) ≡ t → length s ≡ 64 → i < 64 → k < 64 → get_or (set (turned s) (swap i) v) k (pos 0) ≡ get_or (set s i v) (swap k) (pos 0)
either_place s i k v true e l h b =
    let m = eqb-true k (swap i) e in
    ap (λ (n : ℕ). get_or (set (turned s) (swap i) v) n (pos 0)) m
    ∙ set_hit (turned s) (swap i) v (omega (arith, turned_length s, swap_lt i h))
    ∙ sym (set_hit s i v (omega arith))
    ∙ ap (λ (n : ℕ). get_or (set s i v) n (pos 0)) (sym (swap_swap i h) ∙ ap swap (sym m))
either_place s i k v false e l h b =
    let u = eqb-false k (swap i) e in
    set_other (turned s) (swap i) k v u ∙ turned_at s k b ∙ sym (set_other s i (swap k) v (λ m. u (sym (swap_swap k b) ∙ ap swap m)))

-- DC's place is its own
pub first_turned : (v : ℤ) → set (replicate 64 (pos 0)) 0 v ≡ turned (set (replicate 64 (pos 0)) 0 v)
unfolding turned
first_turned v = refl

-- a number goes to its other place
pub set_turned : (s : List ℤ) (i : ℕ) (v : ℤ) → length s ≡ 64 → i < 64 → set (turned s) (swap i) v ≡ turned (set s i v)
set_turned s i v e h =
    let l = length-set (turned s) (swap i) v ∙ turned_length s in
    by_elements (set (turned s) (swap i) v) (turned (set s i v)) (l ∙ sym (turned_length (set s i v)))
    (λ k b. let c : k < 64 = omega (arith, l) in
    either_place s i k v (eqb k (swap i)) refl e h c ∙ sym (turned_at (set s i v) k c))

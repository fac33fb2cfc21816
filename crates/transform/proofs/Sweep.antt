-- A loop that goes over a list from the front and changes the number x at each place k to f k x: what the list is after n turns, one more turn, and what it is at the end.
-- Assumes nothing.
use mathlib.Core.Path.{◌≡◌, refl, sym, ap, ap₂, ◌∙◌}
use mathlib.Core.List.{List, [], ◌∷◌, map}
use Prim.Native.Nat.{ℕ, zero, suc, ◌+◌, ◌<◌}
use native.Mathlib.Nat.{add-zero, zero-add, add-suc, suc-add, le_of_suc-le-suc, not-suc-le-zero}
use native.Mathlib.Numerals.{add-one}
use native.Mathlib.Omega.{arith}
use lib.ListN.{length, get_or, set, replicate}

-- the first n places changed, the first of which is place i
abbrev pub changed : {A : Type 0} → (ℕ → A → A) → ℕ → ℕ → List A → List A
changed f i zero xs = xs
changed f i (suc n) [] = []
changed f i (suc n) (x ∷ xs) = f i x ∷ changed f (suc i) n xs

module _ {A : Type 0} (f : ℕ → A → A) (d : A) where
  -- what stands at n has not been changed
  untouched : (i n : ℕ) (xs : List A) → get_or (changed f i n xs) n d ≡ get_or xs n d
  untouched i zero xs = refl
  untouched i (suc n) [] = refl
  untouched i (suc n) (x ∷ xs) = untouched (suc i) n xs

  more : (i n : ℕ) (xs : List A) → n < length xs → set (changed f i n xs) n (f (i + n) (get_or xs n d)) ≡ changed f i (suc n) xs
  more i n [] h = absurd (not-suc-le-zero h)
  more i zero (x ∷ xs) h = ap (λ (k : ℕ). f k x ∷ xs) (add-zero i)
  more i (suc n) (x ∷ xs) h =
      ap (λ (k : ℕ). f i x ∷ set (changed f (suc i) n xs) n (f k (get_or xs n d))) (add-suc i n ∙ sym (suc-add i n))
      ∙ ap (λ (l : List A). f i x ∷ l) (more (suc i) n xs (le_of_suc-le-suc h))

  -- one turn, in a loop's terms: s is the list after n turns, and v what is stored
  pub turn : (xs s : List A) (n : ℕ) (v : A) → n < length xs → s ≡ changed f 0 n xs → v ≡ f n (get_or s n d) → set s n v ≡ changed f 0 (n + 1) xs
  turn xs s n v h e g =
      ap₂ (λ (l : List A) (x : A). set l n x) e (g ∙ ap₂ f (sym (zero-add n)) (ap (λ (l : List A). get_or l n d) e ∙ untouched 0 n xs))
      ∙ more 0 n xs h
      ∙ ap (λ (k : ℕ). changed f 0 k xs) (sym (add-one n))

-- at the end, by what f is

pub all_mapped : {A : Type 0} (g : A → A) (i n : ℕ) (xs : List A) → length xs ≡ n → changed (λ k x. g x) i n xs ≡ map g xs
all_mapped g i zero [] e = refl
all_mapped g i zero (x ∷ xs) e = absurd (omega arith)
all_mapped g i (suc n) [] e = refl
all_mapped {A} g i (suc n) (x ∷ xs) e = ap (λ (l : List A). g x ∷ l) (all_mapped g (suc i) n xs (omega arith))

pub all_same : {A : Type 0} (v : A) (i n : ℕ) (xs : List A) → length xs ≡ n → changed (λ k x. v) i n xs ≡ replicate n v
all_same v i zero [] e = refl
all_same v i zero (x ∷ xs) e = absurd (omega arith)
all_same v i (suc n) [] e = absurd (omega arith)
all_same {A} v i (suc n) (x ∷ xs) e = ap (λ (l : List A). v ∷ l) (all_same v (suc i) n xs (omega arith))

-- Tests of all numbers below n, and runs of samples. Assumes nothing.
use Prim.Native.Nat.{ℕ, zero, suc, ◌+◌, ◌-◌, ◌≤◌, ◌<◌}
use native.Mathlib.Nat.{eq-or-lt_of_le}
use native.Mathlib.Omega.{arith}
use mathlib.Core.Path.{◌≡◌, refl, sym, ap, ◌∙◌}
use mathlib.Core.Bool.{Bool, true, false, not, ◌||◌}
use mathlib.Core.List.{List}
use mathlib.Core.Logic.{◌⊎◌, inl, inr}
use lib.Dec.{eqb}
use lib.ListN.{get_or}
use Rattle.tile_map.specs.Tiles.{some, differ}

or_true : (b : Bool) → b || true ≡ true
or_true true = refl
or_true false = refl

or_assoc : (a b c : Bool) → a || (b || c) ≡ (a || b) || c
or_assoc true b c = refl
or_assoc false b c = refl

or_none : (b : Bool) → b ≡ b || false
or_none true = refl
or_none false = refl

pub some_none : (n : ℕ) (test : ℕ → Bool) → ((i : ℕ) → i < n → test i ≡ false) → some n test ≡ false
unfolding some
some_none zero test h = refl
some_none (suc n) test h = rw (some_none n test (λ i l. h i (omega arith))) (h n (omega arith))

pub some_at : (n : ℕ) (test : ℕ → Bool) (i : ℕ) → i < n → test i ≡ true → some n test ≡ true
unfolding some
some_at zero test i l h = absurd (omega arith)
some_at (suc n) test i l h = by (eq-or-lt_of_le (omega arith)) (some_at n test i)
  where
    by : (i ≡ n) ⊎ (i < n) → (i < n → test i ≡ true → some n test ≡ true) → some n test || test n ≡ true
    by (inl e) more = ap (λ (b : Bool). some n test || b) (sym (ap test e) ∙ h) ∙ or_true (some n test)
    by (inr k) more = ap (λ (b : Bool). b || test n) (more k h)

-- if the test holds for some, there is one
pub some_found : (n : ℕ) (test : ℕ → Bool) → some n test ≡ true → (i : ℕ) × (i < n) × (test i ≡ true)
unfolding some
some_found zero test h = let z : ◌≡◌ {A = ℕ} 0 1 = cc in absurd (omega arith)
some_found (suc n) test h = by (test n) refl (some_found n test)
  where
    by : (b : Bool) → test n ≡ b → (some n test ≡ true → (i : ℕ) × (i < n) × (test i ≡ true)) → (i : ℕ) × (i < suc n) × (test i ≡ true)
    by true e more = (n, omega arith, e)
    by false e more =
        let below : some n test ≡ true = or_none (some n test) ∙ sym (ap (λ (b : Bool). some n test || b) e) ∙ h in
        let one = more below in
        (one.0, omega (arith, one.1), one.2)

pub some_same : (n : ℕ) (f g : ℕ → Bool) → ((i : ℕ) → i < n → f i ≡ g i) → some n f ≡ some n g
unfolding some
some_same zero f g h = refl
some_same (suc n) f g h = let a = some_same n f g (λ i l. h i (omega arith)) in let b = h n (omega arith) in λ i. a i || b i

pub some_more : (n : ℕ) (test : ℕ → Bool) → some (n + 1) test ≡ some n test || test n
unfolding some
some_more n test = let e : n + 1 ≡ suc n = omega arith in ap (λ (k : ℕ). some k test) e

some_add : (m n : ℕ) (test : ℕ → Bool) → some (m + n) test ≡ some m test || some n (λ i. test (m + i))
unfolding some
some_add m zero test = let e : m + 0 ≡ m = omega arith in ap (λ (k : ℕ). some k test) e ∙ or_none (some m test)
some_add m (suc n) test =
    let e : m + suc n ≡ suc (m + n) = omega arith in
    ap (λ (k : ℕ). some k test) e ∙ ap (λ (b : Bool). b || test (m + n)) (some_add m n test) ∙ sym (or_assoc (some m test) (some n (λ i. test (m + i))) (test (m + n)))

-- ---- runs of samples
module _ (previous new : List ℕ) where
  abbrev here : ℕ → Bool
  here k = not (eqb (get_or previous k 0) (get_or new k 0))

  pub differ_none : (at : ℕ) → false ≡ differ previous new at 0
  unfolding differ some
  differ_none at = refl

  pub differ_more : (at n : ℕ) → differ previous new at n || here (at + n) ≡ differ previous new at (n + 1)
  unfolding differ
  differ_more at n = sym (some_more n (λ i. here (at + i)))

  pub differ_add : (at m n : ℕ) → differ previous new at m || differ previous new (at + m) n ≡ differ previous new at (m + n)
  unfolding differ
  differ_add at m n =
      let e : (i : ℕ) → i < n → here (at + m + i) ≡ here (at + (m + i)) = λ i l. (let k : at + m + i ≡ at + (m + i) = omega arith in ap here k) in
      ap (λ (b : Bool). some m (λ i. here (at + i)) || b) (some_same n (λ i. here (at + m + i)) (λ i. here (at + (m + i))) e)
      ∙ sym (some_add m n (λ i. here (at + i)))

  pub differ_at : (at n k : ℕ) → k < n → here (at + k) ≡ true → differ previous new at n ≡ true
  unfolding differ
  differ_at at n k l h = some_at n (λ i. here (at + i)) k l h

  pub differ_found : (at n : ℕ) → differ previous new at n ≡ true → (k : ℕ) × (k < n) × (here (at + k) ≡ true)
  unfolding differ
  differ_found at n h = some_found n (λ i. here (at + i)) h

  -- no part of a run that is the same differs
  pub differ_part : (at n from m : ℕ) → at ≤ from → from + m ≤ at + n → differ previous new at n ≡ false → differ previous new from m ≡ false
  differ_part at n from m l r h = by (differ previous new from m) refl
    where
      by : (b : Bool) → differ previous new from m ≡ b → b ≡ false
      by false e = refl
      by true e =
          let one = differ_found from m e in
          let k : from + one.0 ≡ at + (from - at + one.0) = omega arith in
          let t : differ previous new at n ≡ true = differ_at at n (from - at + one.0) (omega (arith, one.1)) (sym (ap here k) ∙ one.2) in
          sym t ∙ h

-- The free buffer is the first that holds neither golden nor previous. Assumes nothing.
use Prim.Native.Nat.{ℕ, zero, suc, ◌<◌}
use native.Mathlib.Omega.{arith}
use mathlib.Core.Path.{◌≡◌, refl, sym, subst}
use mathlib.Core.Bool.{Bool, true, false, not, ◌&&◌}
use mathlib.Core.Logic.{◌⊎◌, inl, inr, ⊎_elim, ◌≢◌}
use lib.Dec.{eqb}
use borrow.Author.Tests.{eqb-true, eqb-false}
use Rattle.bitstream.specs.Reading.{choose}
use Rattle.buffer_names.specs.declared.Names.{Names}
use Rattle.buffer_names.specs.Names.{neither, free}

-- a buffer that is free, and every smaller one is not
pub record IsFree (n : Names) (k : ℕ) : Type 0 where
  pub named : k < 3
  pub not_golden : k ≢ n.golden
  pub not_previous : k ≢ n.previous
  pub first : (j : ℕ) → j < k → (j ≡ n.golden) ⊎ (j ≡ n.previous)

pub none : {X : Type 0} → true ≡ false → X
none h = let z : ◌≡◌ {A = ℕ} 0 1 = cc in absurd (omega arith)

-- two tests that do not hold
apart : (k g p : ℕ) (a b : Bool) → eqb g k ≡ a → eqb p k ≡ b → (not a && not b) ≡ true → (k ≢ g) × (k ≢ p)
apart k g p false false ha hb h = ((λ z. eqb-false g k ha (sym z)), (λ z. eqb-false p k hb (sym z)))
apart k g p false true ha hb h = none (sym h)
apart k g p true b ha hb h = none (sym h)

one_holds : (k g p : ℕ) (a b : Bool) → eqb g k ≡ a → eqb p k ≡ b → (not a && not b) ≡ false → (k ≡ g) ⊎ (k ≡ p)
one_holds k g p false false ha hb h = none h
one_holds k g p false true ha hb h = inr (sym (eqb-true p k hb))
one_holds k g p true b ha hb h = inl (sym (eqb-true g k ha))

module _ (n : Names) where
  abbrev g : ℕ
  g = n.golden

  abbrev p : ℕ
  p = n.previous

  other : (k : ℕ) → neither n k ≡ true → (k ≢ g) × (k ≢ p)
  other k h = apart k g p (eqb g k) (eqb p k) refl refl h

  held : (k : ℕ) → neither n k ≡ false → (k ≡ g) ⊎ (k ≡ p)
  held k h = one_holds k g p (eqb g k) (eqb p k) refl refl h

  two : (k : ℕ) → ((0 ≡ g) ⊎ (0 ≡ p)) → ((1 ≡ g) ⊎ (1 ≡ p)) → (2 ≢ g) × (2 ≢ p)
  two k (inl a) (inl b) = absurd (omega arith)
  two k (inl a) (inr b) = ((λ z. omega arith), (λ z. omega arith))
  two k (inr a) (inl b) = ((λ z. omega arith), (λ z. omega arith))
  two k (inr a) (inr b) = absurd (omega arith)

  abbrev Held : ℕ → Type 0
  Held j = (j ≡ g) ⊎ (j ≡ p)

  below_one : Held 0 → (j : ℕ) → j < 1 → Held j
  below_one h j l = let z : 0 ≡ j = omega arith in subst Held z h

  below_two : Held 0 → Held 1 → (j : ℕ) → j < 2 → Held j
  below_two h k zero l = h
  below_two h k (suc zero) l = k
  below_two h k (suc (suc j)) l = absurd (omega arith)

  go : (x y : Bool) → neither n 0 ≡ x → neither n 1 ≡ y → IsFree n (choose x 0 (choose y 1 2))
  go true y hx hy = record { named = omega arith; not_golden = (other 0 hx).0; not_previous = (other 0 hx).1; first = λ j l. absurd (omega arith) }
  go false true hx hy = record { named = omega arith; not_golden = (other 1 hy).0; not_previous = (other 1 hy).1; first = below_one (held 0 hx) }
  go false false hx hy =
      let t = two 2 (held 0 hx) (held 1 hy) in
      record { named = omega arith; not_golden = t.0; not_previous = t.1; first = below_two (held 0 hx) (held 1 hy) }

  pub free_is : IsFree n (free n)
  unfolding free
  free_is = go (neither n 0) (neither n 1) refl refl

-- The byte that is named is the first that differs. Assumes nothing.
use Prim.Native.Nat.{ℕ, suc, ◌<◌}
use native.Mathlib.Omega.{arith}
use mathlib.Core.Path.{◌≡◌, refl, ap}
use mathlib.Core.Bool.{Bool, true, false}
use mathlib.Core.List.{List, [], ◌∷◌}
use mathlib.Core.Logic.{◌⊎◌, inl, inr}
use lib.Dec.{eqb}
use lib.ListN.{length, get_or}
use borrow.Author.Tests.{eqb-true, eqb-false}
use Rattle.bitstream.specs.Reading.{choose}
use Rattle.stream_check.specs.Compared.{difference}
use Rattle.vendor_claims.specs.Claims.{FirstDifference}

more : (a b : ℕ) (want file : List ℕ) (n : ℕ) → a ≡ b → FirstDifference n want file → FirstDifference (suc n) (a ∷ want) (b ∷ file)
more a b want file n e d = record { before = λ i. e i ∷ d.before i; here = go d.here }
  where
    go : ((n < length want) × (n < length file) × (get_or want n 0 ≡ get_or file n 0 → ⊥)) ⊎ (((n ≡ length want) × (n < length file)) ⊎ ((n ≡ length file) × (n < length want)))
        → ((suc n < suc (length want)) × (suc n < suc (length file)) × (get_or want n 0 ≡ get_or file n 0 → ⊥)) ⊎ (((suc n ≡ suc (length want)) × (suc n < suc (length file))) ⊎ ((suc n ≡ suc (length file)) × (suc n < suc (length want))))
    go (inl h) = inl (omega (arith, h.0), omega (arith, h.1), h.2)
    go (inr (inl h)) = inr (inl (ap suc h.0, omega (arith, h.1)))
    go (inr (inr h)) = inr (inr (ap suc h.0, omega (arith, h.1)))

pub first_difference : (want file : List ℕ) → (want ≡ file → ⊥) → FirstDifference (difference want file) want file
unfolding difference
first_difference [] [] other = absurd (other refl)
first_difference [] (b ∷ file) other = record { before = refl; here = inr (inl (refl, omega arith)) }
first_difference (a ∷ want) [] other = record { before = refl; here = inr (inr (refl, omega arith)) }
first_difference (a ∷ want) (b ∷ file) other = go (eqb a b) refl (first_difference want file)
  where
    go : (t : Bool) → eqb a b ≡ t → ((want ≡ file → ⊥) → FirstDifference (difference want file) want file) → FirstDifference (choose t (suc (difference want file)) 0) (a ∷ want) (b ∷ file)
    go true e f = let x = eqb-true a b e in more a b want file (difference want file) x (f (λ q. other (λ i. x i ∷ q i)))
    go false e f = record { before = refl; here = inl (omega arith, omega arith, eqb-false a b e) }

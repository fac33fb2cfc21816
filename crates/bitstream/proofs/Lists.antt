-- Lists given by a rule. Assumes nothing.
use Prim.Native.Nat.{ℕ, zero, suc, ◌+◌, ◌<◌}
use native.Mathlib.Omega.{arith}
use native.Mathlib.Nat.{zero-add}
use mathlib.Core.Path.{◌≡◌, refl, sym, ap, ◌∙◌}
use mathlib.Core.List.{List}
use lib.ListN.{length, get_or}
use lib.Seq.{ext_get_or}
use Rattle.bitstream.specs.Lists.{tabulated}

pub tabulated_length : (f : ℕ → ℕ) (k n : ℕ) → length (tabulated f k n) ≡ n
unfolding tabulated
tabulated_length f k zero = refl
tabulated_length f k (suc n) = ap suc (tabulated_length f (k + 1) n)

pub tabulated_at : (f : ℕ → ℕ) (k n j : ℕ) → j < n → get_or (tabulated f k n) j 0 ≡ f (k + j)
unfolding tabulated
tabulated_at f k zero j h = absurd (omega arith)
tabulated_at f k (suc n) zero h = ap f (omega arith)
tabulated_at f k (suc n) (suc j) h = tabulated_at f (k + 1) n j (omega arith) ∙ ap f (omega arith)

-- rules that agree give the same list, and a list that agrees with the rule at each place is the rule's
pub tabulated_same : (f g : ℕ → ℕ) (k n : ℕ) → ((j : ℕ) → j < n → f (k + j) ≡ g (k + j)) → tabulated f k n ≡ tabulated g k n
tabulated_same f g k n h =
    ext_get_or 0 (tabulated f k n) (tabulated g k n) (tabulated_length f k n ∙ sym (tabulated_length g k n))
    (λ j l. let r : j < n = omega (arith, tabulated_length f k n) in tabulated_at f k n j r ∙ h j r ∙ sym (tabulated_at g k n j r))

pub tabulated_is : (f : ℕ → ℕ) (n : ℕ) (l : List ℕ) → length l ≡ n → ((j : ℕ) → j < n → get_or l j 0 ≡ f j) → l ≡ tabulated f 0 n
tabulated_is f n l e h =
    ext_get_or 0 l (tabulated f 0 n) (e ∙ sym (tabulated_length f 0 n))
    (λ j r. let s : j < n = omega arith in h j s ∙ ap f (sym (zero-add j)) ∙ sym (tabulated_at f 0 n j s))

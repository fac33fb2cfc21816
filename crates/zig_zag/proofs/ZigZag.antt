-- The zig-zag order is a permutation: `naturalOrder`, which has the natural index of each position, leads back. Tests that are computed over the whole figure.
-- Assumes nothing.
use mathlib.Core.Path.{◌≡◌, refl, sym, ap, ◌∙◌}
use mathlib.Core.Bool.{Bool, true, false, cond}
use mathlib.Core.List.{List, [], ◌∷◌}
use Prim.Native.Nat.{ℕ, zero, suc, ◌+◌, ◌<◌}
use native.Mathlib.Nat.{add-zero, zero-add, add-suc, suc-add, le_of_suc-le-suc, not-suc-le-zero}
use lib.Dec.{T, ltb, eqb, ltb→lt, eqb→eq}
use lib.ListN.{length, get_or}
use Rattle.zig_zag.specs.Values.{zig_zag}

unfoldable natural_order : List ℕ
natural_order =
    0 ∷ 1 ∷ 8 ∷ 16 ∷ 9 ∷ 2 ∷ 3 ∷ 10 ∷
    17 ∷ 24 ∷ 32 ∷ 25 ∷ 18 ∷ 11 ∷ 4 ∷ 5 ∷
    12 ∷ 19 ∷ 26 ∷ 33 ∷ 40 ∷ 48 ∷ 41 ∷ 34 ∷
    27 ∷ 20 ∷ 13 ∷ 6 ∷ 7 ∷ 14 ∷ 21 ∷ 28 ∷
    35 ∷ 42 ∷ 49 ∷ 56 ∷ 57 ∷ 50 ∷ 43 ∷ 36 ∷
    29 ∷ 22 ∷ 15 ∷ 23 ∷ 30 ∷ 37 ∷ 44 ∷ 51 ∷
    58 ∷ 59 ∷ 52 ∷ 45 ∷ 38 ∷ 31 ∷ 39 ∷ 46 ∷
    53 ∷ 60 ∷ 61 ∷ 54 ∷ 47 ∷ 55 ∷ 62 ∷ 63 ∷
    []

abbrev below : ℕ → List ℕ → Bool
below b [] = true
below b (x ∷ xs) = cond (ltb x b) (below b xs) false

-- f leads from each entry of the rest, whose first place is i, back to its place
abbrev leads_back : List ℕ → ℕ → List ℕ → Bool
leads_back f i [] = true
leads_back f i (x ∷ xs) = cond (eqb (get_or f x 0) i) (leads_back f (suc i) xs) false

permutes : (length zig_zag ≡ 64) × T (below 64 zig_zag) × T (leads_back natural_order 0 zig_zag)
unfolding zig_zag natural_order
permutes = (refl, tt, tt)

cond_both : (a b : Bool) → T (cond a b false) → T a × T b
cond_both true b t = (tt, t)
cond_both false b t = absurd t

below_at : (b : ℕ) (xs : List ℕ) → T (below b xs) → (k : ℕ) → k < length xs → get_or xs k 0 < b
below_at b [] t k h = absurd (not-suc-le-zero h)
below_at b (x ∷ xs) t zero h = ltb→lt x b (cond_both (ltb x b) (below b xs) t).0
below_at b (x ∷ xs) t (suc k) h = below_at b xs (cond_both (ltb x b) (below b xs) t).1 k (le_of_suc-le-suc h)

back_at : (f : List ℕ) (i : ℕ) (xs : List ℕ) → T (leads_back f i xs) → (k : ℕ) → k < length xs → get_or f (get_or xs k 0) 0 ≡ i + k
back_at f i [] t k h = absurd (not-suc-le-zero h)
back_at f i (x ∷ xs) t zero h = eqb→eq (get_or f x 0) i (cond_both (eqb (get_or f x 0) i) (leads_back f (suc i) xs) t).0 ∙ sym (add-zero i)
back_at f i (x ∷ xs) t (suc k) h =
    back_at f (suc i) xs (cond_both (eqb (get_or f x 0) i) (leads_back f (suc i) xs) t).1 k (le_of_suc-le-suc h) ∙ suc-add i k ∙ sym (add-suc i k)

pub position_lt : (i : ℕ) → i < 64 → get_or zig_zag i 0 < 64
unfolding zig_zag
position_lt i h = below_at 64 zig_zag permutes.1 i h

natural_of_position : (i : ℕ) → i < 64 → get_or natural_order (get_or zig_zag i 0) 0 ≡ i
unfolding zig_zag
natural_of_position i h = back_at natural_order 0 zig_zag permutes.2 i h ∙ zero-add i

-- no two indices stand at one position
pub one_index : (k i : ℕ) → k < 64 → i < 64 → get_or zig_zag k 0 ≡ get_or zig_zag i 0 → k ≡ i
one_index k i hk hi e = sym (natural_of_position k hk) ∙ ap (λ (p : ℕ). get_or natural_order p 0) e ∙ natural_of_position i hi

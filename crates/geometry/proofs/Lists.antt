-- Lists in turn, and what is present of a square that is shifted.
use mathlib.Core.Path.{◌≡◌, refl, sym, ap, ◌∙◌}
use mathlib.Core.Logic.{⊎_elim}
use mathlib.Core.Bool.{Bool, true, false}
use mathlib.Core.List.{List, [], ◌∷◌, ◌++◌, append_assoc, append-nil}
use Prim.Native.Nat.{ℕ, zero, suc, ◌+◌, ◌-◌, ◌*◌, ◌≤◌, ◌<◌, min}
use native.Mathlib.Nat.{add-zero, add-suc, eq-or-lt_of_le, le_of_suc-le-suc, not-suc-le-zero, zero-mul}
use native.Mathlib.Omega.{arith}
use borrow.Author.Tests.{lt-ltb, le-ltb, ltb-true, ltb-false, eqb-true, eqb-false}
use lib.Dec.{ltb, eqb}
use lib.ListN.{length, get_or, length-append, get_or-append}
use lib.Seq.{get_or-append-add}
use Rattle.geometry.specs.declared.Place.{Place}
use Rattle.geometry.specs.Order.{at, in_turn, keep, present, shifted, here, find}
use Rattle.geometry.proofs.Tests.{both, both_left, both_right}
use Rattle.geometry.proofs.Products.{sum_step}

module _ {A : Type 0} (f : ℕ → List A) where
  -- list k ends in all of them, and so does what stands in it
  pub turn_end : (n k : ℕ) → k < n → length (in_turn f k) + length (f k) ≤ length (in_turn f n)
  unfolding in_turn
  turn_end zero k h = absurd (not-suc-le-zero h)
  turn_end (suc n) k h =
      ⊎_elim (λ (e : k ≡ n). let g : length (f n) ≡ length (f k) = ap (λ (m : ℕ). length (f m)) (sym e) in
      let g2 : length (in_turn f n) ≡ length (in_turn f k) = ap (λ (m : ℕ). length (in_turn f m)) (sym e) in
      omega (arith, length-append (in_turn f n) (f n)))
      (λ (b : k < n). omega (arith, turn_end n k b, length-append (in_turn f n) (f n)))
      (eq-or-lt_of_le (le_of_suc-le-suc h))

  pub turn_below : (n k i : ℕ) → k < n → i < length (f k) → length (in_turn f k) + i < length (in_turn f n)
  turn_below n k i h l = omega (arith, turn_end n k h)

  pub turn_at : (n k i : ℕ) (d : A) → k < n → i < length (f k) → get_or (in_turn f n) (length (in_turn f k) + i) d ≡ get_or (f k) i d
  unfolding in_turn
  turn_at zero k i d h l = absurd (not-suc-le-zero h)
  turn_at (suc n) k i d h l =
      ⊎_elim (λ (e : k ≡ n). ap (λ (m : ℕ). get_or (in_turn f n ++ f n) (length (in_turn f m) + i) d) e ∙ get_or-append-add (in_turn f n) (f n) i d
      ∙ ap (λ (m : ℕ). get_or (f m) i d) (sym e))
      (λ (b : k < n). get_or-append (in_turn f n) (f n) d (length (in_turn f k) + i) (turn_below n k i b l) ∙ turn_at n k i d b l)
      (eq-or-lt_of_le (le_of_suc-le-suc h))

  -- squares of side s along N, each c for every step of its side that lies in N
  pub turn_length : (s N c : ℕ) → ((k : ℕ) → length (f k) ≡ min s (N - s * k) * c) → (n : ℕ) → length (in_turn f n) ≡ min (s * n) N * c
  unfolding in_turn
  turn_length s N c h zero = let m : min (s * 0) N ≡ 0 = omega arith in rw m (sym (zero-mul c))
  turn_length s N c h (suc n) = length-append (in_turn f n) (f n) ∙ omega (arith, turn_length s N c h n, h n, sum_step s N c n)

-- two ways to make each list
pub turn_same : {A : Type 0} (f g : ℕ → List A) (n : ℕ) → ((k : ℕ) → k < n → f k ≡ g k) → in_turn f n ≡ in_turn g n
unfolding in_turn
turn_same f g zero e = refl
turn_same f g (suc n) e =
    let a = turn_same f g n (λ k h. e k (omega arith)) in
    let b = e n (omega arith) in
    λ i. a i ++ b i

-- m lists, then n more
pub turn_add : {A : Type 0} (f : ℕ → List A) (m n : ℕ) → in_turn f (m + n) ≡ in_turn f m ++ in_turn (λ j. f (m + j)) n
unfolding in_turn
turn_add f m zero = ap (in_turn f) (add-zero m) ∙ sym (append-nil (in_turn f m))
turn_add {A} f m (suc n) =
    ap (in_turn f) (add-suc m n)
    ∙ ap (λ (l : List A). l ++ f (m + n)) (turn_add f m n)
    ∙ append_assoc (in_turn f m) (in_turn (λ j. f (m + j)) n) (f (m + n))

pub shifted_length : (dx dy : ℕ) (l : List Place) → length (shifted dx dy l) ≡ length l
unfolding shifted
shifted_length dx dy [] = refl
shifted_length dx dy (p ∷ ps) = ap suc (shifted_length dx dy ps)

pub shifted_at : (dx dy i : ℕ) (l : List Place) (d : Place) → i < length l → get_or (shifted dx dy l) i d ≡ at (dx + (get_or l i d).x) (dy + (get_or l i d).y)
unfolding shifted
shifted_at dx dy i [] d h = absurd (not-suc-le-zero h)
shifted_at dx dy zero (p ∷ ps) d h = refl
shifted_at dx dy (suc i) (p ∷ ps) d h = shifted_at dx dy i ps d (le_of_suc-le-suc h)

-- all of the places lie in the square of side s at the origin
abbrev pub small : ℕ → List Place → Bool
small s [] = true
small s (p ∷ ps) = both (both (ltb p.x s) (ltb p.y s)) (small s ps)

-- a test in the plane is a test in the square
shifted_test : (s N d x : ℕ) → x < s → ltb (d + x) N ≡ ltb x (min s (N - d))
shifted_test s N d x h = go (ltb (d + x) N) refl
  where
    go : (t : Bool) → ltb (d + x) N ≡ t → t ≡ ltb x (min s (N - d))
    go true e = let l = ltb-true (d + x) N e in sym (lt-ltb x (min s (N - d)) (omega arith))
    go false e = let l = ltb-false (d + x) N e in sym (le-ltb x (min s (N - d)) (omega arith))

shifted_keep : (a b : Bool) (dx dy : ℕ) (p : Place) (ps : List Place) → keep a b (at (dx + p.x) (dy + p.y)) (shifted dx dy ps) ≡ shifted dx dy (keep a b p ps)
unfolding shifted
shifted_keep true true dx dy p ps = refl
shifted_keep true false dx dy p ps = refl
shifted_keep false b dx dy p ps = refl

pub shifted_present : (s w h dx dy : ℕ) (l : List Place) → small s l ≡ true → present w h (shifted dx dy l) ≡ shifted dx dy (present (min s (w - dx)) (min s (h - dy)) l)
unfolding shifted present
shifted_present s w h dx dy [] t = refl
shifted_present s w h dx dy (p ∷ ps) t =
    let hx = ltb-true p.x s (both_left _ _ (both_left _ _ t)) in
    let hy = ltb-true p.y s (both_right _ _ (both_left _ _ t)) in
    let r = both_right _ _ t in
    rw (shifted_test s w dx p.x hx, shifted_test s h dy p.y hy, shifted_present s w h dx dy ps r)
    (shifted_keep (ltb p.x (min s (w - dx))) (ltb p.y (min s (h - dy))) dx dy p (present (min s (w - dx)) (min s (h - dy)) ps))

-- what stands in a list is found there
module _ (x y : ℕ) where
  found_at : (p : Place) (ps : List Place) (s t : Bool) → eqb p.x x ≡ s → eqb p.y y ≡ t
      → ((p ≡ at x y → ⊥) → (find x y ps < length ps) × (get_or ps (find x y ps) (at 0 0) ≡ at x y))
      → (here s t (find x y ps) < suc (length ps)) × (get_or (p ∷ ps) (here s t (find x y ps)) (at 0 0) ≡ at x y)
  found_at p ps true true e d rest =
      let a = eqb-true p.x x e in
      let b = eqb-true p.y y d in
      (omega arith, λ i. at (a i) (b i))
  found_at p ps true false e d rest = let r = rest (λ q. eqb-false p.y y d (ap (λ (o : Place). o.y) q)) in (omega (arith, r.0), r.1)
  found_at p ps false t e d rest = let r = rest (λ q. eqb-false p.x x e (ap (λ (o : Place). o.x) q)) in (omega (arith, r.0), r.1)

  pub find_there : (l : List Place) (i : ℕ) → i < length l → get_or l i (at 0 0) ≡ at x y → (find x y l < length l) × (get_or l (find x y l) (at 0 0) ≡ at x y)
  unfolding find
  find_there [] i h e = absurd (not-suc-le-zero h)
  find_there (p ∷ ps) zero h e = found_at p ps (eqb p.x x) (eqb p.y y) refl refl (λ n. absurd (n e))
  find_there (p ∷ ps) (suc i) h e = found_at p ps (eqb p.x x) (eqb p.y y) refl refl (λ n. find_there ps i (le_of_suc-le-suc h) e)

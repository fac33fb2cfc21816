-- What stands in lists in turn, in what a function makes of a list, and in a list's things that pass a test.
use mathlib.Core.Path.{◌≡◌, refl, sym, ap, ◌∙◌, subst}
use mathlib.Core.Bool.{Bool, true, false, cond}
use mathlib.Core.List.{List, [], ◌∷◌, ◌++◌, map}
use mathlib.Core.Logic.{◌⊎◌, inl, inr}
use Prim.Native.Nat.{ℕ, zero, suc, ◌<◌}
use native.Mathlib.Nat.{not-suc-le-zero}
use native.Mathlib.Omega.{arith}
use native.Mathlib.Decide.{ℕ_discrete}
use Rattle.geometry.specs.Order.{in_turn}
use Rattle.ways.specs.Loops.{◌∈◌, passing}

module _ {B : Type 0} where
  pub in_left : (xs ys : List B) (b : B) → b ∈ xs → b ∈ xs ++ ys
  in_left [] ys b m = absurd m
  in_left (x ∷ xs) ys b (inl e) = inl e
  in_left (x ∷ xs) ys b (inr m) = inr (in_left xs ys b m)

  pub in_right : (xs ys : List B) (b : B) → b ∈ ys → b ∈ xs ++ ys
  in_right [] ys b m = m
  in_right (x ∷ xs) ys b m = inr (in_right xs ys b m)

  pub in_either : (xs ys : List B) (b : B) → b ∈ xs ++ ys → (b ∈ xs) ⊎ (b ∈ ys)
  in_either [] ys b m = inr m
  in_either (x ∷ xs) ys b (inl e) = inl (inl e)
  in_either (x ∷ xs) ys b (inr m) = up (in_either xs ys b m)
    where
      up : (b ∈ xs) ⊎ (b ∈ ys) → (b ∈ (x ∷ xs)) ⊎ (b ∈ ys)
      up (inl k) = inl (inr k)
      up (inr k) = inr k

  -- ---- lists in turn
  pub in_turn_law : (f : ℕ → List B) (n : ℕ) (b : B) (k : ℕ) → k < n → b ∈ f k → b ∈ in_turn f n
  unfolding in_turn
  in_turn_law f zero b k l m = absurd (not-suc-le-zero l)
  in_turn_law f (suc n) b k l m = go (ℕ_discrete k n) (λ (q : k < n). in_turn_law f n b k q m)
    where
      go : Dec (k ≡ n) → (k < n → b ∈ in_turn f n) → b ∈ in_turn f n ++ f n
      go (yes e) ih = in_right (in_turn f n) (f n) b (subst (λ (i : ℕ). b ∈ f i) e m)
      go (no e) ih = in_left (in_turn f n) (f n) b (ih (omega arith))

  pub of_turn : (f : ℕ → List B) (n : ℕ) (b : B) → b ∈ in_turn f n → (k : ℕ) × (k < n) × (b ∈ f k)
  unfolding in_turn
  of_turn f zero b m = absurd m
  of_turn f (suc n) b m = go (in_either (in_turn f n) (f n) b m) (of_turn f n b)
    where
      go : (b ∈ in_turn f n) ⊎ (b ∈ f n) → (b ∈ in_turn f n → (k : ℕ) × (k < n) × (b ∈ f k)) → (k : ℕ) × (k < suc n) × (b ∈ f k)
      go (inl q) ih = let t = ih q in (t.0, (let h = t.1 in omega arith), t.2)
      go (inr q) ih = (n, omega arith, q)

  -- ---- what a function makes of a list
  pub in_map : {A : Type 0} (g : A → B) (xs : List A) (a : A) → a ∈ xs → g a ∈ map g xs
  in_map g [] a m = absurd m
  in_map g (x ∷ xs) a (inl e) = inl (ap g e)
  in_map g (x ∷ xs) a (inr m) = inr (in_map g xs a m)

  pub of_map : {A : Type 0} (g : A → B) (xs : List A) (b : B) → b ∈ map g xs → (a : A) × (a ∈ xs) × (b ≡ g a)
  of_map g [] b m = absurd m
  of_map g (x ∷ xs) b (inl e) = (x, inl refl, e)
  of_map g (x ∷ xs) b (inr m) = let t = of_map g xs b m in (t.0, inr t.1, t.2)

  -- ---- passing
  pub in_passing : (test : B → Bool) (xs : List B) (b : B) → b ∈ xs → test b ≡ true → b ∈ passing test xs
  unfolding passing
  in_passing test [] b m t = absurd m
  in_passing test (x ∷ xs) b (inl e) t = rw (ap test (sym e) ∙ t) (inl e)
  in_passing test (x ∷ xs) b (inr m) t = go (test x) (in_passing test xs b m t)
    where
      go : (q : Bool) → b ∈ passing test xs → b ∈ cond q (x ∷ passing test xs) (passing test xs)
      go true k = inr k
      go false k = k

  pub of_passing : (test : B → Bool) (xs : List B) (b : B) → b ∈ passing test xs → (b ∈ xs) × (test b ≡ true)
  unfolding passing
  of_passing test [] b m = absurd m
  of_passing test (x ∷ xs) b m = go (test x) refl m (of_passing test xs b)
    where
      go : (q : Bool) → test x ≡ q → b ∈ cond q (x ∷ passing test xs) (passing test xs) → (b ∈ passing test xs → (b ∈ xs) × (test b ≡ true)) → (b ∈ (x ∷ xs)) × (test b ≡ true)
      go true t (inl e) ih = (inl e, ap test e ∙ t)
      go true t (inr k) ih = let z = ih k in (inr z.0, z.1)
      go false t k ih = let z = ih k in (inr z.0, z.1)

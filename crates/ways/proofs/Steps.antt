-- Steps on a list of samples: what they do to the sample at one place j. A step STAYS at v if it leaves v where v stands;
-- it PUTS v if v stands there afterwards; it is LONG as before. All three go through loops.
use mathlib.Core.Path.{◌≡◌, refl, sym, ap, ◌∙◌, subst}
use mathlib.Core.Bool.{Bool, true, false}
use mathlib.Core.List.{List, [], ◌∷◌, ◌++◌}
use mathlib.Core.Logic.{inl, inr}
use Prim.Native.Nat.{ℕ, zero, suc, ◌+◌, ◌<◌}
use native.Mathlib.Numerals.{add-one}
use native.Mathlib.Nat.{not-suc-le-zero}
use native.Mathlib.Omega.{arith}
use native.Mathlib.Decide.{ℕ_discrete, dec_lt}
use lib.ListN.{length, get_or, set, take, length-set}
use lib.Seq.{get_or-set_same, get_or-set_other, set_out, take-suc}
use Rattle.geometry.specs.Order.{in_turn}
use Rattle.ways.specs.Loops.{◌∈◌, up_to, over, when}

pub record Stays (j v : ℕ) (f : List ℕ → List ℕ) : Type 0 where
  pub stays : (s : List ℕ) → get_or s j 0 ≡ v → get_or (f s) j 0 ≡ v

pub record Puts (j v : ℕ) (f : List ℕ → List ℕ) : Type 0 where
  pub puts : (s : List ℕ) → j < length s → get_or (f s) j 0 ≡ v

pub record Long (f : List ℕ → List ℕ) : Type 0 where
  pub long : (s : List ℕ) → length (f s) ≡ length s

-- what stays at every value keeps the sample
pub kept : {j : ℕ} {f : List ℕ → List ℕ} (s : List ℕ) → Stays j (get_or s j 0) f → get_or (f s) j 0 ≡ get_or s j 0
kept s h = h.stays s refl

-- ---- one store
pub set_stays : {j v : ℕ} (i a : ℕ) → (i ≡ j → a ≡ v) → Stays j v (λ s. set s i a)
set_stays {j} {v} i a h = record { stays = λ s e. go s e (ℕ_discrete i j) (dec_lt i (length s)) }
  where
    go : (s : List ℕ) → get_or s j 0 ≡ v → Dec (i ≡ j) → Dec (i < length s) → get_or (set s i a) j 0 ≡ v
    go s e (no n) d = get_or-set_other s i j a 0 (λ q. n (sym q)) ∙ e
    go s e (yes q) (yes l) = ap (λ (k : ℕ). get_or (set s i a) k 0) (sym q) ∙ get_or-set_same s i a 0 l ∙ h q
    go s e (yes q) (no l) = ap (λ (t : List ℕ). get_or t j 0) (set_out s i a (omega arith)) ∙ e

pub set_puts : {j v : ℕ} (i a : ℕ) → i ≡ j → a ≡ v → Puts j v (λ s. set s i a)
set_puts {j} {v} i a e h = record { puts = λ s l. ap (λ (k : ℕ). get_or (set s i a) k 0) (sym e) ∙ get_or-set_same s i a 0 (rw e l) ∙ h }

pub set_long : (i a : ℕ) → Long (λ s. set s i a)
set_long i a = record { long = λ s. length-set s i a }

-- ---- a step that is made or not
module _ {f : List ℕ → List ℕ} where
  pub when_stays : {j v : ℕ} (b : Bool) → (b ≡ true → Stays j v f) → Stays j v (when b f)
  when_stays true h = record { stays = λ s e. (h refl).stays s e }
  when_stays false h = record { stays = λ s e. e }

-- ---- the steps 0 to n - 1
module _ (f : ℕ → List ℕ → List ℕ) where
  pub up_to_stays : {j v : ℕ} (n : ℕ) → ((k : ℕ) → k < n → Stays j v (f k)) → Stays j v (up_to n f)
  unfolding up_to
  up_to_stays zero h = record { stays = λ s e. e }
  up_to_stays (suc n) h =
      let ih = up_to_stays n (λ k l. h k (omega arith)) in
      record { stays = λ s e. (h n (omega arith)).stays (up_to n f s) (ih.stays s e) }

  pub up_to_long : (n : ℕ) → ((k : ℕ) → Long (f k)) → Long (up_to n f)
  unfolding up_to
  up_to_long zero h = record { long = λ s. refl }
  up_to_long (suc n) h = let ih = up_to_long n h in record { long = λ s. (h n).long (up_to n f s) ∙ ih.long s }

  pub up_to_puts : {j v : ℕ} (n : ℕ) → ((k : ℕ) → k < n → Stays j v (f k)) → ((k : ℕ) → Long (f k)) → (k : ℕ) → k < n → Puts j v (f k) → Puts j v (up_to n f)
  unfolding up_to
  up_to_puts zero h g k l p = absurd (not-suc-le-zero l)
  up_to_puts {j} {v} (suc n) h g k l p = go (ℕ_discrete k n) (λ (q : k < n). up_to_puts n (λ i m. h i (omega arith)) g k q p)
    where
      go : Dec (k ≡ n) → (k < n → Puts j v (up_to n f)) → Puts j v (λ s. f n (up_to n f s))
      go (yes e) ih = record { puts = λ s m. (subst (λ (i : ℕ). Puts j v (f i)) e p).puts (up_to n f s) (rw ((up_to_long n g).long s) m) }
      go (no e) ih = record { puts = λ s m. (h n (omega arith)).stays (up_to n f s) ((ih (omega arith)).puts s m) }

-- a turn of a loop
pub up_to_more : {A : Type 0} (n : ℕ) (f : ℕ → A → A) (a : A) → up_to (n + 1) f a ≡ f n (up_to n f a)
unfolding up_to
up_to_more n f a = rw add-one

pub up_to_same : {A : Type 0} (n : ℕ) (f g : ℕ → A → A) → ((k : ℕ) → k < n → (a : A) → f k a ≡ g k a) → (a : A) → up_to n f a ≡ up_to n g a
unfolding up_to
up_to_same zero f g h a = refl
up_to_same (suc n) f g h a = ap (f n) (up_to_same n f g (λ k l. h k (omega arith)) a) ∙ h n (omega arith) (up_to n g a)

-- ---- the things of a list
pub over_append : {A B : Type 0} (xs ys : List B) (f : B → A → A) (a : A) → over (xs ++ ys) f a ≡ over ys f (over xs f a)
unfolding over
over_append [] ys f a = refl
over_append (x ∷ xs) ys f a = over_append xs ys f (f x a)

-- a turn of a loop over a list
pub over_more : {A B : Type 0} (bs : List B) (k : ℕ) (d : B) (f : B → A → A) (a : A) → k < length bs → over (take (k + 1) bs) f a ≡ f (get_or bs k d) (over (take k bs) f a)
unfolding over
over_more bs k d f a l = rw (add-one k, take-suc bs k d l) (over_append (take k bs) (get_or bs k d ∷ []) f a)

-- a loop in a loop
pub over_turns : {A B : Type 0} (g : ℕ → List B) (n : ℕ) (f : B → A → A) (a : A) → over (in_turn g n) f a ≡ up_to n (λ k. over (g k) f) a
unfolding up_to in_turn over
over_turns g zero f a = refl
over_turns g (suc n) f a = over_append (in_turn g n) (g n) f a ∙ ap (over (g n) f) (over_turns g n f a)

pub over_ones : {A B : Type 0} (g : ℕ → B) (n : ℕ) (f : B → A → A) (a : A) → over (in_turn (λ k. g k ∷ []) n) f a ≡ up_to n (λ k. f (g k)) a
unfolding over
over_ones g n f a = over_turns (λ k. g k ∷ []) n f a

module _ {B : Type 0} (f : B → List ℕ → List ℕ) where
  pub over_stays : {j v : ℕ} (bs : List B) → ((b : B) → b ∈ bs → Stays j v (f b)) → Stays j v (over bs f)
  unfolding over
  over_stays [] h = record { stays = λ s e. e }
  over_stays (b ∷ bs) h =
      let ih = over_stays bs (λ a m. h a (inr m)) in
      record { stays = λ s e. ih.stays (f b s) ((h b (inl refl)).stays s e) }

  pub over_long : (bs : List B) → ((b : B) → Long (f b)) → Long (over bs f)
  unfolding over
  over_long [] h = record { long = λ s. refl }
  over_long (b ∷ bs) h = let ih = over_long bs h in record { long = λ s. ih.long (f b s) ∙ (h b).long s }

  pub over_puts : {j v : ℕ} (bs : List B) → ((b : B) → b ∈ bs → Stays j v (f b)) → ((b : B) → Long (f b)) → (b : B) → b ∈ bs → Puts j v (f b) → Puts j v (over bs f)
  unfolding over
  over_puts [] h g b m p = absurd m
  over_puts {j} {v} (x ∷ xs) h g b (inl e) p =
      let rest = over_stays xs (λ a k. h a (inr k)) in
      record { puts = λ s l. rest.stays (f x s) ((subst (λ (i : B). Puts j v (f i)) e p).puts s l) }
  over_puts {j} {v} (x ∷ xs) h g b (inr m) p =
      let ih = over_puts xs (λ a k. h a (inr k)) g b m p in
      record { puts = λ s l. ih.puts (f x s) (rw ((g x).long s) l) }

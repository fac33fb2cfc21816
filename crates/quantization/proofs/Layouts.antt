-- How lists lie in slices. Assumes nothing.
use Prim.Native.Nat.{ℕ, zero, suc, ◌+◌, ◌-◌, ◌*◌, ◌≤◌, ◌<◌}
use native.Mathlib.Omega.{arith}
use native.Mathlib.Nat.{sub-zero, zero-sub}
use mathlib.Core.Path.{◌≡◌, refl, sym, ap, ◌∙◌}
use mathlib.Core.List.{List, [], ◌∷◌, ◌++◌, append-nil, append_assoc}
use native.Mathlib.Numerals.{add-one}
use lib.ListN.{length, get_or, take, drop, set, replicate, get_or-append, length-append, length-drop, length-replicate, take-append-drop}
use lib.Seq.{ext_get_or, get_or-take, get_or-drop, take_at, drop_at, drop-drop, length-take-le, paste, paste-suc}
use borrow.Rule.Slice.PartMut.{mid_of, put_mid}
use Rattle.quantization.specs.Layout.{over, padded, laid}

pub zeros_at : (n k : ℕ) → ◌≡◌ {A = ℕ} (get_or (replicate n 0) k 0) 0
zeros_at zero k = refl
zeros_at (suc n) zero = refl
zeros_at (suc n) (suc k) = zeros_at n k

-- zeros behind a list are what `get_or` answers there anyway
behind_at : (l z : List ℕ) → ((j : ℕ) → get_or z j 0 ≡ 0) → (k : ℕ) → get_or (l ++ z) k 0 ≡ get_or l k 0
behind_at [] z h k = h k
behind_at (x ∷ l) z h zero = refl
behind_at (x ∷ l) z h (suc k) = behind_at l z h k

pub padded_length : (l : List ℕ) → length (padded l) ≡ 64
unfolding padded
padded_length l = length-take-le 64 (l ++ replicate 64 0) (simp (length-append, length-replicate) (omega arith))

pub padded_at : (l : List ℕ) (k : ℕ) → k < 64 → get_or (padded l) k 0 ≡ get_or l k 0
unfolding padded
padded_at l k h = get_or-take 64 (l ++ replicate 64 0) k 0 h ∙ behind_at l (replicate 64 0) (zeros_at 64) k

-- what a list of 64 zeros is with l at its front
pub over_zeros : (l : List ℕ) → length (over l (replicate 64 0)) ≡ 64 → over l (replicate 64 0) ≡ padded l
over_zeros l h =
    ext_get_or 0 (over l (replicate 64 0)) (padded l) (h ∙ sym (padded_length l))
    (λ k r. behind_at l (drop (length l) (replicate 64 0)) (λ j. get_or-drop (length l) (replicate 64 0) j 0 ∙ zeros_at 64 (length l + j)) k ∙ sym (padded_at l k (omega arith)))

-- what has l at its front, from its two parts
pub over_parts : (new old : List ℕ) (k : ℕ) → k ≤ length new → drop k new ≡ drop k old → new ≡ over (take k new) old
over_parts new old k h e = sym (ap (λ (n : ℕ). take k new ++ drop n old) (length-take-le k new h) ∙ ap (λ (x : List ℕ). take k new ++ x) (sym e) ∙ take-append-drop k new)

drop_zeros : (k n : ℕ) → ◌≡◌ {A = List ℕ} (drop k (replicate n 0)) (replicate (n - k) 0)
drop_zeros zero n = rw sub-zero
drop_zeros (suc k) zero = rw zero-sub
drop_zeros (suc k) (suc n) = let e : suc n - suc k ≡ n - k = omega arith in rw e (drop_zeros k n)

take_zeros : (k n : ℕ) → k ≤ n → ◌≡◌ {A = List ℕ} (take k (replicate n 0)) (replicate k 0)
take_zeros zero n h = refl
take_zeros (suc k) zero h = absurd (omega arith)
take_zeros (suc k) (suc n) h = ap (λ (l : List ℕ). 0 ∷ l) (take_zeros k n (omega arith))

-- ---- lists one after the other
module _ {A : Type 0} (f : A → List ℕ) where
  pub laid_length : (l : List A) → length (laid f l) ≡ length l * 64
  unfolding laid
  laid_length [] = refl
  laid_length (x ∷ l) = length-append (padded (f x)) (laid f l) ∙ omega (arith, padded_length (f x), laid_length l)

  pub laid_append : (l m : List A) → laid f (l ++ m) ≡ laid f l ++ laid f m
  unfolding laid
  laid_append [] m = refl
  laid_append (y ∷ l) m = ap (λ (r : List ℕ). padded (f y) ++ r) (laid_append l m) ∙ sym (append_assoc (padded (f y)) (laid f l) (laid f m))

  -- the k-th of them, with anything behind them all
  pub laid_part : (l : List A) (z : List ℕ) (k : ℕ) (d : A) → k < length l → take 64 (drop (k * 64) (laid f l ++ z)) ≡ padded (f (get_or l k d))
  unfolding laid
  laid_part [] z k d h = absurd (omega arith)
  laid_part (x ∷ l) z zero d h =
      ap (λ (r : List ℕ). take 64 r) (append_assoc (padded (f x)) (laid f l) z) ∙ take_at (padded (f x)) (laid f l ++ z) 64 (padded_length (f x))
  laid_part (x ∷ l) z (suc k) d h =
      let s : suc k * 64 ≡ 64 + k * 64 = omega arith in
      ap (λ (n : ℕ). take 64 (drop n ((padded (f x) ++ laid f l) ++ z))) s
      ∙ ap (λ (r : List ℕ). take 64 r) (sym (drop-drop (k * 64) 64 ((padded (f x) ++ laid f l) ++ z)))
      ∙ ap (λ (r : List ℕ). take 64 (drop (k * 64) r)) (ap (λ (r : List ℕ). drop 64 r) (append_assoc (padded (f x)) (laid f l) z) ∙ drop_at (padded (f x)) (laid f l ++ z) 64 (padded_length (f x)))
      ∙ laid_part l z k d (omega arith)

  -- an element of the k-th of them
  pub laid_at : (l : List A) (k j : ℕ) (d : A) → k < length l → j < 64 → get_or (laid f l) (k * 64 + j) 0 ≡ get_or (f (get_or l k d)) j 0
  laid_at l k j d h g =
      sym (get_or-drop (k * 64) (laid f l) j 0)
      ∙ sym (get_or-take 64 (drop (k * 64) (laid f l)) j 0 g)
      ∙ ap (λ (r : List ℕ). get_or (take 64 (drop (k * 64) r)) j 0) (sym (append-nil (laid f l)))
      ∙ ap (λ (r : List ℕ). get_or r j 0) (laid_part l [] k d h)
      ∙ padded_at (f (get_or l k d)) j g

  -- ---- more of them, in a slice of n elements that has zeros behind those that are there
  module _ (n : ℕ) (l : List A) (s : List ℕ) (held : s ≡ laid f l ++ replicate (n - length l * 64) 0) where
    rest : drop (length l * 64) s ≡ replicate (n - length l * 64) 0
    rest = ap (λ (r : List ℕ). drop (length l * 64) r) held ∙ drop_at (laid f l) (replicate (n - length l * 64) 0) (length l * 64) (laid_length l)

    front : take (length l * 64) s ≡ laid f l
    front = ap (λ (r : List ℕ). take (length l * 64) r) held ∙ take_at (laid f l) (replicate (n - length l * 64) 0) (length l * 64) (laid_length l)

    pub free_parts : (w : ℕ) → length l * 64 + w ≤ n → mid_of (length l * 64) w s ≡ replicate w 0
    free_parts w room = ap (λ (r : List ℕ). take w r) rest ∙ take_zeros w (n - length l * 64) (omega arith)

    pub put_all : (m : List A) (new : List ℕ) (w : ℕ) → w ≡ length m * 64 → length l * 64 + w ≤ n → new ≡ laid f m → put_mid (length l * 64) w s new ≡ laid f (l ++ m) ++ replicate (n - length (l ++ m) * 64) 0
    put_all m new w h room e =
        let c : length (l ++ m) ≡ length l + length m = length-append l m in
        let v : n - length l * 64 - w ≡ n - length (l ++ m) * 64 = omega arith in
        let z : drop w (drop (length l * 64) s) ≡ replicate (n - length (l ++ m) * 64) 0 = ap (λ (r : List ℕ). drop w r) rest ∙ drop_zeros w (n - length l * 64) ∙ ap (λ (k : ℕ). replicate k 0) v in
        ap (λ (r : List ℕ). r ++ (new ++ drop w (drop (length l * 64) s))) front
        ∙ ap (λ (r : List ℕ). laid f l ++ (new ++ r)) z
        ∙ sym (append_assoc (laid f l) new (replicate (n - length (l ++ m) * 64) 0))
        ∙ ap (λ (r : List ℕ). (laid f l ++ r) ++ replicate (n - length (l ++ m) * 64) 0) e
        ∙ ap (λ (r : List ℕ). r ++ replicate (n - length (l ++ m) * 64) 0) (sym (laid_append l m))

  -- ---- one more
  module _ (n : ℕ) (l : List A) (s : List ℕ) (held : s ≡ laid f l ++ replicate (n - length l * 64) 0) (room : length l * 64 + 64 ≤ n) where
    pub free_part : mid_of (length l * 64) 64 s ≡ replicate 64 0
    free_part = free_parts n l s held 64 room

    pub put_more : (x : A) (new : List ℕ) → new ≡ padded (f x) → put_mid (length l * 64) 64 s new ≡ laid f (l ++ x ∷ []) ++ replicate (n - length (l ++ x ∷ []) * 64) 0
    unfolding laid
    put_more x new e = put_all n l s held (x ∷ []) new 64 refl room (e ∙ sym (append-nil (padded (f x))))

    -- a copy of the k-th of them
    pub paste_more : (k : ℕ) (d : A) → k < length l → paste s (length l * 64) (drop (k * 64) s) 64 ≡ laid f (l ++ get_or l k d ∷ []) ++ replicate (n - length (l ++ get_or l k d ∷ []) * 64) 0
    paste_more k d h =
        let e : take 64 (drop (k * 64) s) ≡ padded (f (get_or l k d)) = ap (λ (r : List ℕ). take 64 (drop (k * 64) r)) held ∙ laid_part l (replicate (n - length l * 64) 0) k d h in
        append_assoc (take (length l * 64) s) (take 64 (drop (k * 64) s)) (drop (length l * 64 + 64) s)
        ∙ ap (λ (r : List ℕ). take (length l * 64) s ++ (take 64 (drop (k * 64) s) ++ r)) (sym (drop-drop 64 (length l * 64) s))
        ∙ put_more (get_or l k d) (take 64 (drop (k * 64) s)) e

-- ---- a turn of the loop that copies 64 elements to a place behind them
module _ (s₀ : List ℕ) (from to k : ℕ) (apart : from + 64 ≤ to) (room : to + 64 ≤ length s₀) (l : k < 64) where
  source : get_or (paste s₀ to (drop from s₀) k) (from + k) 0 ≡ get_or (drop from s₀) k 0
  source =
      let a : from + k < length (take to s₀) = omega (arith, length-take-le to s₀ (omega arith)) in
      get_or-append (take to s₀ ++ take k (drop from s₀)) (drop (to + k) s₀) 0 (from + k) (omega (arith, length-append (take to s₀) (take k (drop from s₀))))
      ∙ get_or-append (take to s₀) (take k (drop from s₀)) 0 (from + k) a
      ∙ get_or-take to s₀ (from + k) 0 (omega arith)
      ∙ sym (get_or-drop from s₀ k 0)

  pub copy_more : (s : List ℕ) → s ≡ paste s₀ to (drop from s₀) k → set s (to + k) (get_or s (from + k) 0) ≡ paste s₀ to (drop from s₀) (k + 1)
  copy_more s h =
      rw (h, source, add-one k) (paste-suc s₀ to (drop from s₀) k 0 (omega arith) (omega (arith, length-drop from s₀)))

-- The lookup of a tree by eight bits: how it is filled, and what an entry says of the code. Assumes nothing.
use Prim.Native.Nat.{ℕ, zero, suc, ◌+◌, ◌-◌, ◌*◌, ◌/◌, ◌%◌, ◌^◌, ◌≤◌, ◌<◌}
use native.Mathlib.Omega.{arith}
use native.Mathlib.Numerals.{add-one}
use native.Mathlib.Nat.{pow-suc, zero-add}
use mathlib.Core.Path.{◌≡◌, refl, sym, ap, ap₂, ◌∙◌}
use mathlib.Core.List.{List, [], ◌∷◌, ◌++◌, append-nil}
use mathlib.Core.Bool.{Bool, true, false}
use mathlib.Core.Logic.{◌⊎◌, inl, inr}
use lib.Dec.{ltb, eqb, leb}
use lib.Pow.{pow_mono, shr_lt}
use lib.Pow as P
use lib.ListN.{length, get_or, set, take, drop, replicate, length-append, length-replicate, get_or-replicate, get_or-append}
use lib.Seq.{take-suc-set, take_all, take_at, drop-length, length-take-le, length_front, get_or-append-add, get_or-set_same, get_or-set_other}
use borrow.Rule.Slice.PartMut.{put_mid, Post-is}
use borrow.Author.Tests.{lt-ltb, le-ltb, ltb-true, ltb-false, eqb-true, eqb-false, leb-true, le-leb}
use Rattle.bitstream.specs.Bits.{bits, bit_at, number}
use Rattle.bitstream.specs.Lists.{tabulated}
use Rattle.bitstream.specs.Reading.{got, choose}
use Rattle.bitstream.proofs.Lists.{tabulated_length, tabulated_at, tabulated_same, tabulated_is}
use Rattle.bitstream.proofs.Numbers.{bit_lt, number_lt, number_add, number_one}
use Rattle.huffman.specs.Code.{Formed, token_code, tree_of}
use Rattle.code_walk.specs.Walk.{branch}
use Rattle.code_walk.proofs.Walks.{Found}
use Rattle.code_lookup.specs.Lookup.{extra_of, extra_in, leaf_entry, leaf_part, spread, lookup_of}
use Rattle.code_lookup.proofs.Left.{Left, left_start, left_leaf, left_on}

-- ---- filling with one entry
pub filled_with : (l : List ℕ) (i e : ℕ) → i < length l → take i l ≡ replicate i e → take (i + 1) (set l i e) ≡ replicate (i + 1) e
filled_with l i e h g = rw (add-one i) (take-suc-set l i e h ∙ (ap (λ (x : List ℕ). x ++ e ∷ []) g ∙ snoc i))
  where
    snoc : (n : ℕ) → replicate n e ++ e ∷ [] ≡ replicate (suc n) e
    snoc zero = refl
    snoc (suc n) = ap (λ (x : List ℕ). e ∷ x) (snoc n)

pub filled_whole : (l : List ℕ) (i e : ℕ) → i ≡ length l → take i l ≡ replicate i e → l ≡ replicate (length l) e
filled_whole l i e h g = sym (take_all i l (omega (arith, h))) ∙ (g ∙ ap (λ (n : ℕ). replicate n e) h)

-- ---- the part of a leaf
leaf_length : (values complete : List ℕ) (n t : ℕ) → length (leaf_part values complete n t) ≡ 2 ^ n
unfolding leaf_part
leaf_length values complete n t = tabulated_length (leaf_entry values complete n t) 0 (2 ^ n)

leaf_at : (values complete : List ℕ) (n t j : ℕ) → j < 2 ^ n → get_or (leaf_part values complete n t) j 0 ≡ leaf_entry values complete n t j
unfolding leaf_part
leaf_at values complete n t j h = tabulated_at (leaf_entry values complete n t) 0 (2 ^ n) j h ∙ ap (leaf_entry values complete n t) (zero-add j)

-- one entry for all of it
one_for_all : (f : ℕ → ℕ) (n e : ℕ) → ((j : ℕ) → j < n → e ≡ f j) → replicate n e ≡ tabulated f 0 n
one_for_all f n e h = tabulated_is f n (replicate n e) (length-replicate n e) (λ j l. get_or-replicate n j e 0 l ∙ h j l)

module _ (values complete : List ℕ) (n t : ℕ) where
  abbrev bits_of : ℕ
  bits_of = (8 - n) * 2 ^ 36

  -- the value alone, where the bits that are left do not hold the extra bits
  pub leaf_plain : extra_in values n t ≡ false → replicate (2 ^ n) (get_or values t 0 + (8 - n) * 2 ^ 36) ≡ leaf_part values complete n t
  unfolding leaf_part
  leaf_plain h = one_for_all (leaf_entry values complete n t) (2 ^ n) (get_or values t 0 + bits_of) (λ j l. rw h)

  -- without extra bits there is one complete value
  pub leaf_bare : extra_of values t ≡ 0 → replicate (2 ^ n) (get_or complete (8 * t) 0 + (8 - n) * 2 ^ 36) ≡ leaf_part values complete n t
  unfolding leaf_part
  leaf_bare h = one_for_all (leaf_entry values complete n t) (2 ^ n) (get_or complete (8 * t) 0 + bits_of) each
    where
      all_in : extra_in values n t ≡ true
      all_in = rw (h, le-leb 0 n (omega arith)) refl

      first : (j u : ℕ) → u ≡ 0 → j < 2 ^ n → 8 * t + j / 2 ^ (n - u) ≡ 8 * t
      first j u e l =
          let z : n - u ≡ n = omega arith in
          let m : j < 2 ^ (0 + n) = rw (zero-add n) l in
          rw z (omega (arith, shr_lt 0 n m))

      each : (j : ℕ) → j < 2 ^ n → get_or complete (8 * t) 0 + bits_of ≡ leaf_entry values complete n t j
      each j l = let f = first j (extra_of values t) h l in λ i. choose (sym all_in i) (get_or complete (sym f i) 0) (get_or values t 0) + bits_of

  -- a complete value for each number that the extra bits can be
  pub leaf_extra : extra_in values n t ≡ true → tabulated (λ j. get_or complete (8 * t + j / 2 ^ (n - extra_of values t)) 0 + (8 - n) * 2 ^ 36) 0 (2 ^ n) ≡ leaf_part values complete n t
  unfolding leaf_part
  leaf_extra h = tabulated_same (λ j. get_or complete (8 * t + j / 2 ^ (n - extra_of values t)) 0 + bits_of) (leaf_entry values complete n t) 0 (2 ^ n) (λ j l. rw h)

-- the complete values that are gone to
pub extra_index : (n e j t : ℕ) → e ≤ 3 → e ≤ n → t < 32 → j < 2 ^ n → 8 * t + j / 2 ^ (n - e) < 256
extra_index n e j t a b c h =
    let z : e + (n - e) ≡ n = omega arith in
    let m : j < 2 ^ (e + (n - e)) = rw z h in
    let d : j / 2 ^ (n - e) < 2 ^ e = shr_lt e (n - e) m in
    let w : 2 ^ e ≤ 2 ^ 3 = pow_mono a in
    omega (arith, d, w)

-- filling by a rule
pub filled_on : (l : List ℕ) (i v : ℕ) (f : ℕ → ℕ) → i < length l → v ≡ f i → ((j : ℕ) → j < i → get_or l j 0 ≡ f j) → (j : ℕ) → j < i + 1 → get_or (set l i v) j 0 ≡ f j
filled_on l i v f h e g j m = go (eqb j i) refl
  where
    go : (b : Bool) → eqb j i ≡ b → get_or (set l i v) j 0 ≡ f j
    go true b = let z : j ≡ i = eqb-true j i b in rw z (get_or-set_same l i v 0 h ∙ e)
    go false b = let z = eqb-false j i b in get_or-set_other l i j v 0 z ∙ g j (omega (arith, z, m))

-- ---- the ways of a part
module _ (nodes values complete : List ℕ) where
  abbrev at_node : ℕ → ℕ
  at_node node = get_or nodes (node % 64) 0

  pub spread_leaf : (n node : ℕ) → at_node node < 128 → spread nodes values complete n node ≡ leaf_part values complete n (at_node node % 32)
  unfolding spread
  spread_leaf zero node h = rw (lt-ltb _ _ h)
  spread_leaf (suc n) node h = rw (lt-ltb _ _ h)

  pub spread_none : (n node : ℕ) → n ≡ 0 → 128 ≤ at_node node → spread nodes values complete n node ≡ 0 ∷ []
  unfolding spread
  spread_none zero node e h = rw (le-ltb _ _ h)
  spread_none (suc n) node e h = absurd (omega (arith, e))

  spread_suc : (n node : ℕ) → 128 ≤ at_node node → spread nodes values complete (suc n) node ≡ spread nodes values complete n (node % 64 + 1) ++ spread nodes values complete n (at_node node - 128)
  unfolding spread
  spread_suc n node h = rw (le-ltb _ _ h)

  pub spread_fork : (n node : ℕ) → 0 < n → 128 ≤ at_node node → spread nodes values complete n node ≡ spread nodes values complete (n - 1) (node % 64 + 1) ++ spread nodes values complete (n - 1) (at_node node - 128)
  spread_fork zero node e h = absurd (omega (arith, e))
  spread_fork (suc n) node e h = let z : suc n - 1 ≡ n = omega arith in spread_suc n node h ∙ (λ i. spread nodes values complete (sym z i) (node % 64 + 1) ++ spread nodes values complete (sym z i) (at_node node - 128))

  joined : (n a b : ℕ) → length (spread nodes values complete n a) ≡ 2 ^ n → length (spread nodes values complete n b) ≡ 2 ^ n → length (spread nodes values complete n a ++ spread nodes values complete n b) ≡ 2 ^ suc n
  joined n a b x y = length-append (spread nodes values complete n a) (spread nodes values complete n b) ∙ rw (x, y, pow-suc) (omega arith)

  by_node : {X : Type 0} (node : ℕ) → (at_node node < 128 → X) → (128 ≤ at_node node → X) → X
  by_node {X} node f g = go (ltb (get_or nodes (node % 64) 0) 128) refl
    where
      go : (t : Bool) → ltb (get_or nodes (node % 64) 0) 128 ≡ t → X
      go true t = f (ltb-true _ _ t)
      go false t = g (ltb-false _ _ t)

  spread_length : (n node : ℕ) → length (spread nodes values complete n node) ≡ 2 ^ n
  spread_length zero node = by_node node (λ h. ap length (spread_leaf 0 node h) ∙ leaf_length values complete 0 (at_node node % 32)) (λ h. ap length (spread_none 0 node refl h))
  spread_length (suc n) node =
      by_node node (λ h. ap length (spread_leaf (suc n) node h) ∙ leaf_length values complete (suc n) (at_node node % 32))
      (λ h. ap length (spread_suc n node h) ∙ joined n (node % 64 + 1) (at_node node - 128) (spread_length n (node % 64 + 1)) (spread_length n (at_node node - 128)))

pub lookup_length : (nodes values complete : List ℕ) → length (lookup_of nodes values complete) ≡ 256
lookup_length nodes values complete = spread_length nodes values complete 8 0

-- ---- the two halves of a part, filled one after the other
pub halves : (n : ℕ) → 0 < n → 2 ^ n ≡ 2 * 2 ^ (n - 1)
halves zero h = absurd (omega (arith, h))
halves (suc n) h = let z : suc n - 1 ≡ n = omega arith in rw (z, pow-suc) (omega arith)

pub both_halves : (l xs ys : List ℕ) (half end : ℕ) → length xs ≡ length (take half l) → half ≤ end → end ≡ length l → put_mid half (end - half) (xs ++ drop half l) ys ≡ xs ++ ys
both_halves l xs ys half end h u e =
    let a : length xs ≡ half = h ∙ length-take-le half l (omega arith) in
    let w : end ≡ length (xs ++ drop half l) = e ∙ sym (length_front l xs half h) in
    ap₂ (λ (x z : List ℕ). x ++ (ys ++ z)) (take_at xs (drop half l) half a) (Post-is half end (xs ++ drop half l) u ∙ (ap (λ (n : ℕ). drop n (xs ++ drop half l)) w ∙ drop-length (xs ++ drop half l))) ∙ ap (λ (z : List ℕ). xs ++ z) (append-nil ys)

pub one_entry : (l : List ℕ) (e : ℕ) → length l ≡ 1 → set l 0 e ≡ e ∷ []
one_entry [] e h = absurd (omega (arith, h))
one_entry (x ∷ []) e h = refl
one_entry (x ∷ y ∷ l) e h = absurd (omega (arith, h))

-- ---- what a complete entry says of the code at a place: its extra bits, too
module _ (nodes values complete p : List ℕ) (at : ℕ) (long : length nodes ≡ 64) where
  pub record Completed (e : ℕ) : Type 0 where
    pub token : ℕ
    pub taken : ℕ
    pub is : e ≡ get_or complete (8 * (token % 32) + number p (at + taken) (extra_of values (token % 32))) 0 + taken * 2 ^ 36
    pub short : extra_of values (token % 32) ≤ 3
    pub few : taken ≤ 8
    pub code : token_code (tree_of nodes) p at ≡ got token (at + taken)

  abbrev Either : ℕ → Type 0
  Either e = Found nodes values p at long e ⊎ Completed e

  one_more : (n i : ℕ) → number p i (suc n) ≡ bit_at p i * 2 ^ n + number p (i + 1) n
  one_more n i = let z : 1 + n ≡ suc n = omega arith in ap (λ (m : ℕ). number p i m) (sym z) ∙ (number_add p i 1 n ∙ ap (λ (x : ℕ). x * 2 ^ n + number p (i + 1) n) (number_one p i))

  leaf_found : (n node place k : ℕ) → n ≤ 8 → node < 64 → Left nodes p at node place → place + n ≡ at + 8 → k ≡ number p place n → get_or nodes (node % 64) 0 < 128 → Either (get_or (spread nodes values complete n node) k 0)
  leaf_found n node place k m l g w h f = go (leb (extra_of values (get_or nodes (node % 64) 0 % 32)) 3) (leb (extra_of values (get_or nodes (node % 64) 0 % 32)) n) refl refl
    where
      z : node % 64 ≡ node
      z = omega arith

      is_entry : get_or (spread nodes values complete n node) k 0 ≡ leaf_entry values complete n (get_or nodes (node % 64) 0 % 32) k
      is_entry = ap (λ (x : List ℕ). get_or x k 0) (spread_leaf nodes values complete n node f) ∙ leaf_at values complete n (get_or nodes (node % 64) 0 % 32) k (rw h (number_lt p place n))

      q : place ≡ at + (8 - n)
      q = omega (arith, w, m)

      there : token_code (tree_of nodes) p at ≡ got (get_or nodes (node % 64) 0) (at + (8 - n))
      there = rw z (left_leaf nodes p at node place g (rw z at f) ∙ ap (λ (x : ℕ). got (get_or nodes node 0) x) q)

      plain : extra_in values n (get_or nodes (node % 64) 0 % 32) ≡ false → Either (get_or (spread nodes values complete n node) k 0)
      plain x = inl (record { token = get_or nodes (node % 64) 0; taken = 8 - n; is = is_entry ∙ rw x refl; few = omega arith; code = there })

      go : (a b : Bool) → leb (extra_of values (get_or nodes (node % 64) 0 % 32)) 3 ≡ a → leb (extra_of values (get_or nodes (node % 64) 0 % 32)) n ≡ b → Either (get_or (spread nodes values complete n node) k 0)
      go true true a b =
          let u = extra_of values (get_or nodes (node % 64) 0 % 32) in
          let d : u + (n - u) ≡ n = omega (arith, leb-true (extra_of values (get_or nodes (node % 64) 0 % 32)) n b) in
          let split : k / 2 ^ (n - u) ≡ number p (at + (8 - n)) u = rw h (ap (λ (c : ℕ). number p place c / 2 ^ (n - u)) (sym d) ∙ (rw (number_add p place u (n - u)) (P.high (number p place u) (n - u) (number_lt p (place + u) (n - u))) ∙ ap (λ (i : ℕ). number p i u) q)) in
          inr (record {
            token = get_or nodes (node % 64) 0;
            taken = 8 - n;
            is = is_entry ∙ rw (a, b, split) refl;
            short = leb-true (extra_of values (get_or nodes (node % 64) 0 % 32)) 3 a;
            few = omega arith;
            code = there;
          })
      go false b x y = plain (rw x refl)
      go true false x y = plain (rw (x, y) refl)

  -- the half that the next bit tells
  in_half : (n i x y : ℕ) (P : ℕ → Type 0) → P (get_or (spread nodes values complete n (choose (eqb (bit_at p i) 0) x y)) (number p (i + 1) n) 0) → P (get_or (spread nodes values complete n x ++ spread nodes values complete n y) (number p i (suc n)) 0)
  in_half n i x y P = go (eqb (bit_at p i) 0) refl
    where
      go : (t : Bool) → eqb (bit_at p i) 0 ≡ t → P (get_or (spread nodes values complete n (choose t x y)) (number p (i + 1) n) 0) → P (get_or (spread nodes values complete n x ++ spread nodes values complete n y) (number p i (suc n)) 0)
      go true t h =
          let b : bit_at p i ≡ 0 = eqb-true _ _ t in
          let k : number p i (suc n) ≡ number p (i + 1) n = one_more n i ∙ rw b (omega arith) in
          rw (k, get_or-append (spread nodes values complete n x) (spread nodes values complete n y) 0 (number p (i + 1) n) (rw (spread_length nodes values complete n x) (number_lt p (i + 1) n))) h
      go false t h =
          let b : bit_at p i ≡ 1 = omega (arith, bit_lt p i, eqb-false (bit_at p i) 0 t) in
          let k : number p i (suc n) ≡ length (spread nodes values complete n x) + number p (i + 1) n = one_more n i ∙ rw (b, spread_length nodes values complete n x) (omega arith) in
          rw (k, get_or-append-add (spread nodes values complete n x) (spread nodes values complete n y) (number p (i + 1) n) 0) h

  found : (n node place : ℕ) → n ≤ 8 → node < 64 → Left nodes p at node place → place + n ≡ at + 8 → at + 8 ≤ bits p → (◌≡◌ {A = ℕ} (get_or (spread nodes values complete n node) (number p place n) 0) 0 → ⊥) → Either (get_or (spread nodes values complete n node) (number p place n) 0)
  found zero node place m l g w b h =
      by_node nodes values complete node (leaf_found 0 node place _ m l g w refl)
      (λ f. absurd (h (ap (λ (x : List ℕ). get_or x (number p place 0) 0) (spread_none nodes values complete 0 node refl f) ∙ none (number p place 0))))
    where
      none : (k : ℕ) → ◌≡◌ {A = ℕ} (get_or (0 ∷ []) k 0) 0
      none zero = refl
      none (suc k) = refl
  found (suc n) node place m l g w b h =
      by_node nodes values complete node (leaf_found (suc n) node place _ m l g w refl)
      (λ f. go f (λ node place u v x y z. found n node place u v x y b z))
    where
      go : 128 ≤ get_or nodes (node % 64) 0
          → ((node place : ℕ) → n ≤ 8 → node < 64 → Left nodes p at node place → place + n ≡ at + 8 → (◌≡◌ {A = ℕ} (get_or (spread nodes values complete n node) (number p place n) 0) 0 → ⊥) → Either (get_or (spread nodes values complete n node) (number p place n) 0))
          → Either (get_or (spread nodes values complete (suc n) node) (number p place (suc n)) 0)
      go f r =
          let z : node % 64 ≡ node = omega arith in
          let v = get_or nodes (node % 64) 0 in
          let o = left_on nodes p at node place v (branch (node % 64) v (bit_at p place)) g (ap (λ (x : ℕ). get_or nodes x 0) z) f (omega (arith, w, b)) (ap (λ (x : ℕ). branch x v (bit_at p place)) z) in
          let s = spread_suc nodes values complete n node f in
          let e = ap (λ (x : List ℕ). get_or x (number p place (suc n)) 0) s in
          rw e (in_half n place (node % 64 + 1) (v - 128) Either (r (branch (node % 64) v (bit_at p place)) (place + 1) (omega (arith, m)) (omega (arith, o.1, long)) o.2 (omega (arith, w))
          (λ q. h (e ∙ in_half n place (node % 64 + 1) (v - 128) (λ x. ◌≡◌ {A = ℕ} x 0) q))))

  pub found_code : Formed nodes → at + 8 ≤ bits p → (◌≡◌ {A = ℕ} (get_or (lookup_of nodes values complete) (number p at 8) 0) 0 → ⊥) → Either (get_or (lookup_of nodes values complete) (number p at 8) 0)
  found_code f b h = found 8 0 at (omega arith) (omega arith) (left_start nodes p at f) refl b h

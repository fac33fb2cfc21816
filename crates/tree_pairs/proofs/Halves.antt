-- How `load_pair` goes over one of its two trees, leaf by leaf: the forks that are open, and what is left to read. Assumes nothing.
use Prim.Native.Nat.{ℕ, zero, suc, ◌+◌, ◌-◌, ◌*◌, ◌/◌, ◌%◌, ◌^◌, ◌≤◌, ◌<◌}
use native.Mathlib.Omega.{arith}
use mathlib.Core.Path.{◌≡◌, refl, sym, ap, ap₂, ◌∙◌, subst}
use mathlib.Core.List.{List, [], ◌∷◌}
use lib.Count.{count_leading_zeros}
use lib.ListN.{length, get_or, set, replicate, length-set, length-replicate}
use lib.Seq.{set-get_or}
use Rattle.bitstream.specs.Bits.{bits, bit_at, number}
use Rattle.bitstream.specs.Reading.{got}
use Rattle.huffman.specs.Tree.{Tree, huffman_tree, nodes_of}
use Rattle.stored_trees.proofs.Loads.{Rest, fork_back, leaf_back, last_leaf, rest_whole}
use Rattle.tree_pairs.specs.Pair.{Pushed}
use Rattle.tree_pairs.proofs.Windows.{Window, Seen, shifted, zero_bits, front_zeros, front_one, top_token}

-- ---- the open forks, the innermost first: the j-th from outside stands so many nodes behind j as the stack's entry says, and all stand before the node n
abbrev Stacked : List ℕ → ℕ → List ℕ → Type 0
Stacked s i [] = i ≡ 0
Stacked s i (f ∷ fs) = (j : ℕ) × (i ≡ j + 1) × (f ≡ j + get_or s j 0) × Stacked s j fs

abbrev Below : ℕ → List ℕ → Type 0
Below n [] = Unit {0}
Below n (f ∷ fs) = (f < n) × Below n fs

below_more : (n m : ℕ) (fs : List ℕ) → n ≤ m → Below n fs → Below m fs
below_more n m [] h g = tt
below_more n m (f ∷ fs) h g = (omega (arith, g.0), below_more n m fs h g.1)

stacked_same : (s t : List ℕ) (i : ℕ) (fs : List ℕ) → ((k : ℕ) → k < i → get_or t k 0 ≡ get_or s k 0) → Stacked s i fs → Stacked t i fs
stacked_same s t i [] h g = g
stacked_same s t i (f ∷ fs) h g =
    let e : i ≡ g.0 + 1 = g.1 in
    (g.0, g.1, g.2 ∙ ap (λ (x : ℕ). g.0 + x) (sym (h g.0 (omega (arith, e)))), stacked_same s t g.0 fs (λ k l. h k (omega (arith, e, l))) g.3)

-- ---- behind L leaves, with i forks open: what is left there comes to the tree from its start
pub record Half (p : List ℕ) (at i L : ℕ) (s ns : List ℕ) : Type 0 where
  forks : List ℕ
  back : (F : List ℕ) (c e : ℕ) → Rest p (at + i + 7 * L) (i + 2 * L) L forks ns F c e → Rest p at 0 0 [] (replicate 64 0) F c e
  stacked : Stacked s i forks
  below : Below (i + 2 * L) forks
  pub long : length ns ≡ 64

pub half_start : (p : List ℕ) (at : ℕ) (s ns : List ℕ) → ns ≡ replicate 64 0 → Half p at 0 0 s ns
half_start p at s ns h =
    let q : at + 0 + 7 * 0 ≡ at = omega arith in
    record {
      forks = [];
      back = λ F c e r. subst (λ (m : List ℕ). Rest p at 0 0 [] m F c e) h (subst (λ (q : ℕ). Rest p q 0 0 [] ns F c e) q r);
      stacked = refl;
      below = tt;
      long = ap length h ∙ length-replicate {A = ℕ} 64 0;
    }

module _ (p : List ℕ) (at L : ℕ) (ns : List ℕ) where
  -- other entries from i on
  pub half_same : (i : ℕ) (s t : List ℕ) → ((k : ℕ) → k < i → get_or t k 0 ≡ get_or s k 0) → Half p at i L s ns → Half p at i L t ns
  half_same i s t h g = record { forks = g.forks; back = g.back; stacked = stacked_same s t i g.forks h g.stacked; below = g.below; long = g.long }

  -- a fork
  half_fork : (i : ℕ) (s : List ℕ) → bit_at p (at + i + 7 * L) ≡ 0 → get_or s i 0 ≡ 2 * L → i + 2 * L < 64 → Half p at i L s ns → Half p at (i + 1) L s ns
  half_fork i s b t l g =
      let q = at + i + 7 * L in
      let n = i + 2 * L in
      let x : at + (i + 1) + 7 * L ≡ q + 1 = omega arith in
      let y : i + 1 + 2 * L ≡ n + 1 = omega arith in
      record {
        forks = n ∷ g.forks;
        back = λ F c e r. g.back F c e (fork_back p q n L g.forks ns F c e (omega (arith, l, g.long)) (get_or ns n 0) b
            (subst (λ (m : List ℕ). Rest p (q + 1) (n + 1) L (n ∷ g.forks) m F c e) (sym (set-get_or ns n 0))
            (subst (λ (k : ℕ). Rest p (q + 1) k L (n ∷ g.forks) ns F c e) y (subst (λ (k : ℕ). Rest p k (i + 1 + 2 * L) L (n ∷ g.forks) ns F c e) x r))));
        stacked = (i, refl, omega (arith, t), g.stacked);
        below = (omega arith, below_more n (i + 1 + 2 * L) g.forks (omega arith) g.below);
        long = g.long;
      }

  -- y forks
  pub half_forks : (i : ℕ) (s : List ℕ) (y : ℕ) → ((k : ℕ) → k < y → bit_at p (at + i + 7 * L + k) ≡ 0) → ((k : ℕ) → i ≤ k → k < i + y → get_or s k 0 ≡ 2 * L) → i + y + 2 * L ≤ 64 → Half p at i L s ns
      → Half p at (i + y) L s ns
  half_forks i s zero b t l g = let e : i ≡ i + 0 = omega arith in subst (λ (k : ℕ). Half p at k L s ns) e g
  half_forks i s (suc y) b t l g =
      let e : i + y + 1 ≡ i + suc y = omega arith in
      let x : at + i + 7 * L + y ≡ at + (i + y) + 7 * L = omega arith in
      let r = half_forks i s y (λ k h. b k (omega (arith, h))) (λ k m h. t k m (omega (arith, h))) (omega (arith, l)) g in
      subst (λ (k : ℕ). Half p at k L s ns) e (half_fork (i + y) s (ap (bit_at p) (sym x) ∙ b y (omega arith)) (t (i + y) (omega arith) (omega arith)) (omega (arith, l)) r)

  module _ (j : ℕ) (s : List ℕ) (g : Half p at (j + 1) L s ns) where
    -- the innermost one
    pub half_open : j + get_or s j 0 < j + 1 + 2 * L
    half_open = go g.forks g.stacked g.below
      where
        go : (fs : List ℕ) → Stacked s (j + 1) fs → Below (j + 1 + 2 * L) fs → j + get_or s j 0 < j + 1 + 2 * L
        go [] c b = absurd (omega (arith, c))
        go (f ∷ fs) c b =
            let e : c.0 ≡ j = omega (arith, c.1) in
            let x : f ≡ j + get_or s j 0 = c.2 ∙ ap (λ (k : ℕ). k + get_or s k 0) e in
            omega (arith, x, b.0)

    -- a leaf, and the innermost fork gets its 1 branch
    pub half_leaf : (t : ℕ) → bit_at p (at + (j + 1) + 7 * L) ≡ 1 → t ≡ number p (at + (j + 1) + 7 * L + 1) 5 → j + 1 + 2 * L < 64
        → Half p at j (L + 1) s (set (set ns (2 * L + j + 1) t) (j + get_or s j 0) (129 + (2 * L + j + 1)))
    half_leaf t b is l = go g.forks g.back g.stacked g.below
      where
        go : (fs : List ℕ) → ((F : List ℕ) (c e : ℕ) → Rest p (at + (j + 1) + 7 * L) (j + 1 + 2 * L) L fs ns F c e → Rest p at 0 0 [] (replicate 64 0) F c e)
            → Stacked s (j + 1) fs → Below (j + 1 + 2 * L) fs → Half p at j (L + 1) s (set (set ns (2 * L + j + 1) t) (j + get_or s j 0) (129 + (2 * L + j + 1)))
        go [] back c b = absurd (omega (arith, c))
        go (f ∷ fs) back c below =
            let q = at + (j + 1) + 7 * L in
            let n = j + 1 + 2 * L in
            let e : c.0 ≡ j = omega (arith, c.1) in
            let x : f ≡ j + get_or s j 0 = c.2 ∙ ap (λ (k : ℕ). k + get_or s k 0) e in
            let m : 2 * L + j + 1 ≡ n = omega arith in
            let v : 129 + (2 * L + j + 1) ≡ 128 + (n + 1) = omega arith in
            let y : at + j + 7 * (L + 1) ≡ q + 6 = omega arith in
            let z : j + 2 * (L + 1) ≡ n + 1 = omega arith in
            let new = set (set ns (2 * L + j + 1) t) (j + get_or s j 0) (129 + (2 * L + j + 1)) in
            let w : new ≡ set (set ns n t) f (128 + (n + 1)) = ap₂ (λ (k u : ℕ). set (set ns k t) (j + get_or s j 0) u) m v ∙ ap (λ (k : ℕ). set (set ns n t) k (128 + (n + 1))) (sym x) in
            record {
              forks = fs;
              back = λ F c e r. back F c e (leaf_back p q n L f fs ns F c e t (omega (arith, l, g.long)) b is
                  (subst (λ (k : List ℕ). Rest p (q + 6) (n + 1) (L + 1) fs k F c e) w (subst (λ (k : ℕ). Rest p (q + 6) k (L + 1) fs new F c e) z (subst (λ (k : ℕ). Rest p k (j + 2 * (L + 1)) (L + 1) fs new F c e) y r))));
              stacked = subst (λ (k : ℕ). Stacked s k fs) e c.3;
              below = below_more (j + 1 + 2 * L) (j + 2 * (L + 1)) fs (omega arith) below.1;
              long = length-set (set ns (2 * L + j + 1) t) (j + get_or s j 0) (129 + (2 * L + j + 1)) ∙ (length-set ns (2 * L + j + 1) t ∙ g.long);
            }

-- the last leaf
pub half_end : (p : List ℕ) (at : ℕ) (s ns : List ℕ) (t : ℕ) → Half p at 0 31 s ns → bit_at p (at + 217) ≡ 1 → t ≡ number p (at + 217 + 1) 5 → at + 223 ≤ bits p
    → (u : Tree) × (huffman_tree p at ≡ got u (at + 223)) × (set ns 62 t ≡ nodes_of u)
half_end p at s ns t g b is d = go g.forks g.back g.stacked
  where
    go : (fs : List ℕ) → ((F : List ℕ) (c e : ℕ) → Rest p (at + 0 + 7 * 31) (0 + 2 * 31) 31 fs ns F c e → Rest p at 0 0 [] (replicate 64 0) F c e) → Stacked s 0 fs
        → (u : Tree) × (huffman_tree p at ≡ got u (at + 223)) × (set ns 62 t ≡ nodes_of u)
    go (f ∷ fs) back c = absurd (omega (arith, c.1))
    go [] back c =
        let q : at + 217 ≡ at + 0 + 7 * 31 = omega arith in
        let e : at + 217 + 6 ≡ at + 223 = omega arith in
        let r : Rest p (at + 217) 62 31 [] ns (set ns 62 t) 32 (at + 217 + 6) = last_leaf p (at + 217) 62 31 ns t (omega (arith, g.long)) b is in
        let w = rest_whole p at (set ns 62 t) 32 (at + 217 + 6) (back (set ns 62 t) 32 (at + 217 + 6) (subst (λ (k : ℕ). Rest p k 62 31 [] ns (set ns 62 t) 32 (at + 217 + 6)) q r)) (omega arith) (omega (arith, d)) in
        (w.0, w.1 ∙ ap (got w.0) e, w.3)

-- ---- a turn of the loop
module _ (p : List ℕ) (at i L : ℕ) (s t ns : List ℕ) (w y : ℕ) (g : Half p at i L s ns) (seen : Seen p (at + i + 7 * L) w L) (is : y ≡ count_leading_zeros 64 w) (few : y ≤ 8)
    (pushed : Pushed s t i 8 (2 * L)) (fits : i + y + 2 * L < 64) where
  abbrev q : ℕ
  q = at + i + 7 * L

  bits_left : 15 ≤ seen.shown
  bits_left = omega (arith, seen.enough)

  pub turn_forks : Half p at (i + y) L t ns
  turn_forks =
      half_forks p at L ns i t y (λ k h. zero_bits p q y (front_zeros p q w seen.shown seen.window y is few (omega (arith, bits_left, few))) k h) (λ k a b. pushed.there k a (omega (arith, b, few))) (omega (arith, fits))
      (half_same p at L ns i s t pushed.before g)

  window : Window p (q + y) (w * 2 ^ y % 2 ^ 64) (seen.shown - y)
  window = shifted p q w seen.shown y (omega (arith, bits_left, few)) seen.window

  module _ (j : ℕ) (e : i + y ≡ j + 1) where
    place : q + y ≡ at + (j + 1) + 7 * L
    place = omega (arith, e)

    forks_open : Half p at (j + 1) L t ns
    forks_open = subst (λ (k : ℕ). Half p at k L t ns) e turn_forks

    pub turn_open : j + get_or t j 0 < 64
    turn_open = omega (arith, half_open p at L ns j t forks_open, e, fits)

    pub turn_leaf : Half p at j (L + 1) t (set (set ns (2 * L + j + 1) (w * 2 ^ y % 2 ^ 64 / 2 ^ 58 % 32)) (j + get_or t j 0) (129 + (2 * L + j + 1)))
    turn_leaf =
        half_leaf p at L ns j t forks_open (w * 2 ^ y % 2 ^ 64 / 2 ^ 58 % 32) (ap (bit_at p) (sym place) ∙ front_one p q w seen.shown seen.window y is few (omega (arith, bits_left, few)))
        (top_token p (q + y) (w * 2 ^ y % 2 ^ 64) (seen.shown - y) window (omega (arith, bits_left, few)) ∙ ap (λ (k : ℕ). number p (k + 1) 5) place) (omega (arith, e, fits))

    pub turn_seen : ((L + 1) % 4 ≡ 0 → ⊥) → Seen p (at + j + 7 * (L + 1)) (w * 2 ^ y % 2 ^ 64 * 2 ^ 6 % 2 ^ 64) (L + 1)
    turn_seen h =
        let x : q + y + 6 ≡ at + j + 7 * (L + 1) = omega (arith, e) in
        record {
          shown = seen.shown - y - 6;
          window = subst (λ (k : ℕ). Window p k (w * 2 ^ y % 2 ^ 64 * 2 ^ 6 % 2 ^ 64) (seen.shown - y - 6)) x (shifted p (q + y) (w * 2 ^ y % 2 ^ 64) (seen.shown - y) 6 (omega (arith, bits_left, few)) window);
          enough = omega (arith, seen.enough, few, h);
        }

-- The state of `load_pair`'s loop: two trees side by side, each behind as many leaves. Assumes nothing.
use Prim.Native.Nat.{ℕ, ◌+◌, ◌-◌, ◌*◌, ◌/◌, ◌%◌, ◌^◌, ◌≤◌, ◌<◌}
use native.Mathlib.Omega.{arith}
use mathlib.Core.Path.{◌≡◌, refl, sym, ap, ap₂, ◌∙◌, subst}
use mathlib.Core.Bool.{Bool, true, false, not, ◌||◌, false≢true}
use mathlib.Core.List.{List, ◌++◌}
use lib.Count.{count_leading_zeros}
use lib.Dec.{eqb, leb, ltb}
use lib.ListN.{length, get_or, take, drop, set, replicate, length-set, length-replicate, take-append-drop}
use lib.Seq.{take-set-lt, take-set-le, drop-set-lt, drop-set-add}
use borrow.Author.Tests.{eqb-true, eqb-false, leb-false, ltb-false, not-false}
use Rattle.bitstream.specs.Bits.{bits, bit_at, number}
use Rattle.bitstream.specs.Reading.{got}
use Rattle.tree_pairs.specs.Pair.{Pushed, Pair}
use Rattle.tree_pairs.proofs.Windows.{Seen, seen_filled, top_bit, top_token}
use Rattle.tree_pairs.proofs.Halves.{Half, half_start, half_end, turn_open, turn_leaf, turn_seen}

-- ---- the first 64 nodes and the others, where one of them is set
module _ (ns : List ℕ) (n x : ℕ) (h : n < 64) where
  front_set : (take 64 (set ns n x) ≡ set (take 64 ns) n x) × (drop 64 (set ns n x) ≡ drop 64 ns)
  front_set = (take-set-lt 64 ns n x h, drop-set-lt 64 ns n x h)

  rear_set : (take 64 (set ns (64 + n) x) ≡ take 64 ns) × (drop 64 (set ns (64 + n) x) ≡ set (drop 64 ns) n x)
  rear_set = (take-set-le 64 ns (64 + n) x (omega arith), drop-set-add 64 ns n x)

-- a leaf put into one of the two
abbrev pub put : List ℕ → ℕ → ℕ → ℕ → ℕ → ℕ → List ℕ
put ns from n t f v = set (set ns (from + n) t) (from + f) v

module _ (ns : List ℕ) (n t f v : ℕ) (h : n < 64) (k : f < 64) where
  front_put : (take 64 (put ns 0 n t f v) ≡ set (set (take 64 ns) n t) f v) × (drop 64 (put ns 0 n t f v) ≡ drop 64 ns)
  front_put =
      let a : 0 + n ≡ n = omega arith in
      let b : 0 + f ≡ f = omega arith in
      let x = front_set ns n t h in
      let y = front_set (set ns n t) f v k in
      rw (a, b) (y.0 ∙ ap (λ (l : List ℕ). set l f v) x.0, y.1 ∙ x.1)

  rear_put : (take 64 (put ns 64 n t f v) ≡ take 64 ns) × (drop 64 (put ns 64 n t f v) ≡ set (set (drop 64 ns) n t) f v)
  rear_put =
      let x = rear_set ns n t h in
      let y = rear_set (set ns (64 + n) t) f v k in
      (y.0 ∙ x.0, y.1 ∙ ap (λ (l : List ℕ). set l f v) x.1)

-- ---- the loop's state
pub record Both (p : List ℕ) (at L a b i j : ℕ) (first second nodes : List ℕ) : Type 0 where
  pub one : Half p at i L first (take 64 nodes)
  pub two : Half p (at + 223) j L second (drop 64 nodes)
  pub long : length nodes ≡ 128
  pub first_long : length first ≡ 72
  pub second_long : length second ≡ 72
  pub few : L ≤ 31
  pub one_fits : i + 2 * L ≤ 64
  pub two_fits : j + 2 * L ≤ 64

-- whatever the windows are
pub same_both : {p : List ℕ} {at L a b i j : ℕ} {first second nodes : List ℕ} (x y : ℕ) → Both p at L a b i j first second nodes → Both p at L x y i j first second nodes
same_both x y g =
    record { one = g.one; two = g.two; long = g.long; first_long = g.first_long; second_long = g.second_long; few = g.few; one_fits = g.one_fits; two_fits = g.two_fits }

-- what the two windows show
abbrev pub Shown : List ℕ → ℕ → ℕ → ℕ → ℕ → ℕ → ℕ → Type 0
Shown p at L a b i j = Seen p (at + i + 7 * L) a L × Seen p (at + 223 + j + 7 * L) b L

pub both_start : (p : List ℕ) (at a b : ℕ) (first second nodes : List ℕ) → nodes ≡ replicate 128 0 → length first ≡ 72 → length second ≡ 72 → Both p at 0 a b 0 0 first second nodes
both_start p at a b first second nodes h l m =
    record {
      one = half_start p at first (take 64 nodes) (ap (take 64) h);
      two = half_start p (at + 223) second (drop 64 nodes) (ap (drop 64) h);
      long = ap length h ∙ length-replicate {A = ℕ} 128 0;
      first_long = l;
      second_long = m;
      few = omega arith;
      one_fits = omega arith;
      two_fits = omega arith;
    }

-- a window that was just filled, and one that was kept
pub seen_at : (p : List ℕ) (k q w x L : ℕ) → k ≡ q → w ≡ number p (k / 8 * 8) 64 * 2 ^ (k % 8) % 2 ^ 64 → x ≡ w → Seen p q x L
seen_at p k q w x L e h z = subst (λ (y : ℕ). Seen p q y L) (sym z) (subst (λ (y : ℕ). Seen p y w L) e (seen_filled p k w L h))

pub seen_as : (p : List ℕ) (q w x L : ℕ) → x ≡ w → Seen p q w L → Seen p q x L
seen_as p q w x L z g = subst (λ (y : ℕ). Seen p q y L) (sym z) g

-- ---- the tests
or_none : (a b : Bool) → (a || b) ≡ false → (a ≡ false) × (b ≡ false)
or_none false b e = (refl, e)
or_none true b e = absurd (false≢true (sym e))

pub at_most : (y z : ℕ) → (ltb 8 y || ltb 8 z) ≡ false → (y ≤ 8) × (z ≤ 8)
at_most y z e = let x = or_none (ltb 8 y) (ltb 8 z) e in (ltb-false 8 y x.0, ltb-false 8 z x.1)

pub fits : (n k : ℕ) → (eqb n 0 || leb 64 k) ≡ false → (1 ≤ n) × (k < 64)
fits n k e = let x = or_none (eqb n 0) (leb 64 k) e in (omega (arith, eqb-false n 0 x.0), leb-false 64 k x.1)

pub ended : (n l e a b : ℕ) → (((not (eqb n 0) || ltb l e) || ltb a (2 ^ 63)) || ltb b (2 ^ 63)) ≡ false → (n ≡ 0) × (e ≤ l) × (2 ^ 63 ≤ a) × (2 ^ 63 ≤ b)
ended n l e a b h =
    let x = or_none ((not (eqb n 0) || ltb l e) || ltb a (2 ^ 63)) (ltb b (2 ^ 63)) h in
    let y = or_none (not (eqb n 0) || ltb l e) (ltb a (2 ^ 63)) x.0 in
    let z = or_none (not (eqb n 0)) (ltb l e) y.0 in
    (eqb-true n 0 (not-false (eqb n 0) z.0), ltb-false l e z.1, ltb-false a (2 ^ 63) y.1, ltb-false b (2 ^ 63) x.1)

-- ---- a turn: y forks and a leaf of the first tree, z forks and a leaf of the second
module _ (p : List ℕ) (at L a b i j : ℕ) (first second nodes first' second' : List ℕ) where
  abbrev y : ℕ
  y = count_leading_zeros 64 a

  abbrev z : ℕ
  z = count_leading_zeros 64 b

  abbrev a' : ℕ
  a' = a * 2 ^ y % 2 ^ 64

  abbrev b' : ℕ
  b' = b * 2 ^ z % 2 ^ 64

  abbrev d : ℕ
  d = i + y - 1

  abbrev e : ℕ
  e = j + z - 1

  module _ (g : Both p at L a b i j first second nodes) (s : Shown p at L a b i j) where
    module _ (few : y ≤ 8) (pushed : Pushed first first' i 8 (2 * L)) (some : 1 ≤ i + y) (room : i + y + 2 * L < 64) where
      back_one : i + y ≡ d + 1
      back_one = omega (arith, some)

      pub one_open : d + get_or first' d 0 < 64
      one_open = turn_open p at i L first first' (take 64 nodes) a y g.one s.0 refl few pushed room d back_one

      one_leaf : Half p at d (L + 1) first' (set (set (take 64 nodes) (2 * L + d + 1) (a' / 2 ^ 58 % 32)) (d + get_or first' d 0) (129 + (2 * L + d + 1)))
      one_leaf = turn_leaf p at i L first first' (take 64 nodes) a y g.one s.0 refl few pushed room d back_one

      one_seen : ((L + 1) % 4 ≡ 0 → ⊥) → Seen p (at + d + 7 * (L + 1)) (a' * 2 ^ 6 % 2 ^ 64) (L + 1)
      one_seen h = turn_seen p at i L first first' (take 64 nodes) a y g.one s.0 refl few pushed room d back_one h

    module _ (few : z ≤ 8) (pushed : Pushed second second' j 8 (2 * L)) (some : 1 ≤ j + z) (room : j + z + 2 * L < 64) where
      back_two : j + z ≡ e + 1
      back_two = omega (arith, some)

      pub two_open : e + get_or second' e 0 < 64
      two_open = turn_open p (at + 223) j L second second' (drop 64 nodes) b z g.two s.1 refl few pushed room e back_two

      two_leaf : Half p (at + 223) e (L + 1) second' (set (set (drop 64 nodes) (2 * L + e + 1) (b' / 2 ^ 58 % 32)) (e + get_or second' e 0) (129 + (2 * L + e + 1)))
      two_leaf = turn_leaf p (at + 223) j L second second' (drop 64 nodes) b z g.two s.1 refl few pushed room e back_two

      two_seen : ((L + 1) % 4 ≡ 0 → ⊥) → Seen p (at + 223 + e + 7 * (L + 1)) (b' * 2 ^ 6 % 2 ^ 64) (L + 1)
      two_seen h = turn_seen p (at + 223) j L second second' (drop 64 nodes) b z g.two s.1 refl few pushed room e back_two h

    module _ (fa : y ≤ 8) (pa : Pushed first first' i 8 (2 * L)) (sa : 1 ≤ i + y) (ra : i + y + 2 * L < 64) (fb : z ≤ 8) (pb : Pushed second second' j 8 (2 * L)) (sb : 1 ≤ j + z) (rb : j + z + 2 * L < 64) where
      pub shown_more : ((L + 1) % 4 ≡ 0 → ⊥) → Shown p at (L + 1) (a' * 2 ^ 6 % 2 ^ 64) (b' * 2 ^ 6 % 2 ^ 64) d e
      shown_more h = (one_seen fa pa sa ra h, two_seen fb pb sb rb h)

      pub both_more : (mid new : List ℕ) → L < 31 → length first' ≡ 72 → length second' ≡ 72
          → mid ≡ put nodes 0 (2 * L + d + 1) (a' / 2 ^ 58 % 32) (d + get_or first' d 0) (129 + (2 * L + d + 1))
          → new ≡ put mid 64 (2 * L + e + 1) (b' / 2 ^ 58 % 32) (e + get_or second' e 0) (129 + (2 * L + e + 1))
          → Both p at (L + 1) (a' * 2 ^ 6 % 2 ^ 64) (b' * 2 ^ 6 % 2 ^ 64) d e first' second' new
      both_more mid new l lf ls hm hn =
          let x = front_put nodes (2 * L + d + 1) (a' / 2 ^ 58 % 32) (d + get_or first' d 0) (129 + (2 * L + d + 1)) (omega (arith, sa, ra)) (one_open fa pa sa ra) in
          let u = rear_put mid (2 * L + e + 1) (b' / 2 ^ 58 % 32) (e + get_or second' e 0) (129 + (2 * L + e + 1)) (omega (arith, sb, rb)) (two_open fb pb sb rb) in
          let v : take 64 new ≡ set (set (take 64 nodes) (2 * L + d + 1) (a' / 2 ^ 58 % 32)) (d + get_or first' d 0) (129 + (2 * L + d + 1)) = ap (take 64) hn ∙ (u.0 ∙ (ap (take 64) hm ∙ x.0)) in
          let w : drop 64 new ≡ set (set (drop 64 nodes) (2 * L + e + 1) (b' / 2 ^ 58 % 32)) (e + get_or second' e 0) (129 + (2 * L + e + 1)) =
          ap (drop 64) hn ∙ (u.1 ∙ ap (λ (m : List ℕ). set (set m (2 * L + e + 1) (b' / 2 ^ 58 % 32)) (e + get_or second' e 0) (129 + (2 * L + e + 1))) (ap (drop 64) hm ∙ x.1)) in
          record {
            one = subst (Half p at d (L + 1) first') (sym v) (one_leaf fa pa sa ra);
            two = subst (Half p (at + 223) e (L + 1) second') (sym w) (two_leaf fb pb sb rb);
            long = ap length hn ∙ (simp length-set (ap length hm ∙ simp length-set g.long));
            first_long = lf;
            second_long = ls;
            few = omega (arith, l);
            one_fits = omega (arith, sa, ra);
            two_fits = omega (arith, sb, rb);
          }

-- ---- behind the last leaves
module _ (p : List ℕ) (at a b : ℕ) (first second nodes : List ℕ) (ha : 2 ^ 63 ≤ a) (hb : 2 ^ 63 ≤ b) (d : at + 446 ≤ bits p) where
  pair_end : Both p at 31 a b 0 0 first second nodes → Shown p at 31 a b 0 0 → Pair p at (set (set nodes 62 (a / 2 ^ 58 % 32)) 126 (b / 2 ^ 58 % 32))
  pair_end g s =
      let t = a / 2 ^ 58 % 32 in
      let u = b / 2 ^ 58 % 32 in
      let q : at + 0 + 7 * 31 ≡ at + 217 = omega arith in
      let r : at + 223 + 0 + 7 * 31 ≡ at + 223 + 217 = omega arith in
      let k : at + 223 + 223 ≡ at + 446 = omega arith in
      let v = s.0.shown in
      let w = s.1.shown in
      let x = half_end p at first (take 64 nodes) t g.one (ap (bit_at p) (sym q) ∙ top_bit p (at + 0 + 7 * 31) a v s.0.window (omega (arith, s.0.enough)) ha)
      (top_token p (at + 0 + 7 * 31) a v s.0.window (omega (arith, s.0.enough)) ∙ ap (λ (n : ℕ). number p (n + 1) 5) q) (omega (arith, d)) in
      let y = half_end p (at + 223) second (drop 64 nodes) u g.two (ap (bit_at p) (sym r) ∙ top_bit p (at + 223 + 0 + 7 * 31) b w s.1.window (omega (arith, s.1.enough)) hb)
      (top_token p (at + 223 + 0 + 7 * 31) b w s.1.window (omega (arith, s.1.enough)) ∙ ap (λ (n : ℕ). number p (n + 1) 5) r) (omega (arith, d)) in
      let m = front_set nodes 62 t (omega arith) in
      let n = rear_set (set nodes 62 t) 62 u (omega arith) in
      let new = set (set nodes 62 t) 126 u in
      record {
        first = x.0;
        second = y.0;
        here = x.1;
        behind = y.1 ∙ ap (got y.0) k;
        laid = sym (take-append-drop 64 new) ∙ ap₂ ◌++◌ (n.0 ∙ (m.0 ∙ x.2)) (n.1 ∙ (ap (λ (l : List ℕ). set l 62 u) m.1 ∙ y.2));
      }

  pub pair_whole : (L i j : ℕ) → 31 ≡ L → i + j ≡ 0 → Both p at L a b i j first second nodes → ((L % 4 ≡ 0 → ⊥) → Shown p at L a b i j) → Pair p at (set (set nodes 62 (a / 2 ^ 58 % 32)) 126 (b / 2 ^ 58 % 32))
  pair_whole L i j e h g s = go L i j e (omega arith) (omega arith) g (s (λ z. absurd (omega (arith, z, e))))
    where
      go : (L i j : ℕ) → 31 ≡ L → 0 ≡ i → 0 ≡ j → Both p at L a b i j first second nodes → Shown p at L a b i j → Pair p at (set (set nodes 62 (a / 2 ^ 58 % 32)) 126 (b / 2 ^ 58 % 32))
      go L i j e f h g s =
          pair_end (subst (λ (x : ℕ). Both p at 31 a b 0 x first second nodes) (sym h) (subst (λ (x : ℕ). Both p at 31 a b x j first second nodes) (sym f) (subst (λ (x : ℕ). Both p at x a b i j first second nodes) (sym e) g)))
          (subst (λ (x : ℕ). Shown p at 31 a b 0 x) (sym h) (subst (λ (x : ℕ). Shown p at 31 a b x j) (sym f) (subst (λ (x : ℕ). Shown p at x a b i j) (sym e) s)))

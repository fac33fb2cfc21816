-- How the fields of a set go, by what is read. Assumes nothing.
use Prim.Native.Nat.{ℕ, zero, suc, ◌+◌, ◌-◌, ◌*◌, ◌/◌, ◌^◌, ◌≤◌, ◌<◌}
use native.Mathlib.Omega.{arith}
use native.Mathlib.Nat.{pow-suc}
use mathlib.Core.Path.{◌≡◌, refl, sym, ap, ◌∙◌}
use mathlib.Core.List.{List}
use mathlib.Core.Bool.{Bool, true, false}
use lib.Dec.{eqb}
use borrow.Author.Tests.{ltb-true, leb-true, lt-ltb, le-ltb, le-leb, lt-leb, eq-eqb, ne_eqb}
use Rattle.bitstream.specs.Reading.{got, refused, pure, bind, guard, choose, field, judged}
use Rattle.bitstream.proofs.Fields.{no_mix, judged_end, judged_fails, judged_passes}
use Rattle.bitstream.proofs.Laws.{bind_got}
use Rattle.set_fields.specs.Fields.{digits, ilog, index, range_size, origin}

-- ---- the number of binary digits
pub Digits : ℕ → ℕ → ℕ → Type 0
Digits n left k = (fuel : ℕ) × (left ≤ fuel) × (k + left ≤ n) × (ilog n ≡ k + digits fuel left)

pub digits_start : (n : ℕ) → Digits n n 0
unfolding Digits ilog
digits_start n = (n, omega arith, omega arith, omega arith)

pub digits_fits : (n left k : ℕ) → Digits n left k → k + left ≤ n
unfolding Digits
digits_fits n left k d = d.2

pub digits_more : (n left k : ℕ) → 0 < left → Digits n left k → Digits n (left / 2) (k + 1)
unfolding Digits digits
digits_more n left k h (zero, a, b, e) = absurd (omega arith)
digits_more n left k h (suc fuel, a, b, e) = (fuel, omega arith, omega arith, e ∙ rw (ne_eqb left 0 (λ z. absurd (omega arith))) (omega arith))

digits_zero : (k : ℕ) → digits k 0 ≡ 0
unfolding digits
digits_zero zero = refl
digits_zero (suc k) = refl

pub digits_done : (n left k : ℕ) → left ≤ 0 → Digits n left k → k ≡ ilog n
unfolding Digits
digits_done n left k h (fuel, a, b, e) = let z : left ≡ 0 = omega arith in sym (e ∙ rw z (omega (arith, digits_zero fuel)))

digits_le : (k n b : ℕ) → n < 2 ^ b → digits k n ≤ b
unfolding digits
digits_le zero n b h = omega arith
digits_le (suc k) n zero h = let z : n ≡ 0 = omega arith in rw z (omega arith)
digits_le (suc k) n (suc b) h = go (eqb n 0) (digits_le k (n / 2) b (let w : n < 2 ^ b * 2 = rw (← pow-suc 2 b) h in omega arith))
  where
    go : (t : Bool) → digits k (n / 2) ≤ b → choose t 0 (1 + digits k (n / 2)) ≤ suc b
    go true l = omega arith
    go false l = omega arith

-- a number below 2 ^ b has at most b digits
pub ilog_le : (n b : ℕ) → n < 2 ^ b → ilog n ≤ b
unfolding ilog
ilog_le n b h = digits_le n n b h

module _ (n : ℕ) (p : List ℕ) (i : ℕ) where
  pub index_end : {k e : ℕ} → field (ilog (n - 1)) p i ≡ refused k e → index n p i ≡ refused k e
  unfolding index
  index_end f = judged_end _ _ _ p i f

  pub index_big : {v e : ℕ} → field (ilog (n - 1)) p i ≡ got v e → n ≤ v → index n p i ≡ refused 7 i
  unfolding index
  index_big f h = judged_fails _ _ _ p i f (le-ltb _ _ h)

  pub index_got : {v e : ℕ} → field (ilog (n - 1)) p i ≡ got v e → v < n → index n p i ≡ got v e
  unfolding index
  index_got f h = judged_passes _ _ _ p i f (lt-ltb _ _ h)

module _ (qi : ℕ) (p : List ℕ) (i : ℕ) where
  pub size_end : {k e : ℕ} → field (ilog (62 - qi)) p i ≡ refused k e → range_size qi p i ≡ refused k e
  unfolding range_size
  size_end f = judged_end _ _ _ p i f

  pub size_big : {v e : ℕ} → field (ilog (62 - qi)) p i ≡ got v e → 63 < qi + (v + 1) → range_size qi p i ≡ refused 7 i
  unfolding range_size
  size_big f h = judged_fails _ _ _ p i f (lt-leb _ _ h)

  pub size_got : {v e : ℕ} → field (ilog (62 - qi)) p i ≡ got v e → qi + (v + 1) ≤ 63 → range_size qi p i ≡ got v e
  unfolding range_size
  size_got f h = judged_passes _ _ _ p i f (le-leb _ _ h)

-- a judged field that was got has passed its test
pub judged_true : (n : ℕ) (test : ℕ → Bool) (k : ℕ) (p : List ℕ) (i : ℕ) {v e : ℕ} → judged n test k p i ≡ got v e → test v ≡ true
unfolding judged
judged_true n test k p i {v} {e} h =
    let u = bind_got (field n) (λ a. bind (guard (test a) k i) (λ _. pure a)) p i h in
    go u.0 u.1 (test u.0) refl u.3
  where
    go : (a d : ℕ) (t : Bool) → test a ≡ t → bind (guard t k i) (λ _. pure a) p d ≡ got v e → test v ≡ true
    go a d true t r = let z : a ≡ v = cc in ap test (sym z) ∙ t
    go a d false t r = no_mix (sym r)

pub index_lt : (n : ℕ) (p : List ℕ) (i : ℕ) {v e : ℕ} → index n p i ≡ got v e → v < n
unfolding index
index_lt n p i h = ltb-true _ _ (judged_true _ _ _ p i h)

pub size_le : (qi : ℕ) (p : List ℕ) (i : ℕ) {v e : ℕ} → range_size qi p i ≡ got v e → qi + (v + 1) ≤ 63
unfolding range_size
size_le qi p i h = leb-true _ _ (judged_true _ _ _ p i h)

-- ---- where a set comes from
module _ (k : ℕ) (p : List ℕ) (i : ℕ) where
  pub origin_first : k ≡ 0 → origin k p i ≡ got 0 i
  unfolding origin
  origin_first h = rw (eq-eqb _ _ h)

  module _ (h : k ≡ 0 → ⊥) where
    pub origin_end : {j e : ℕ} → field 1 p i ≡ refused j e → origin k p i ≡ refused j e
    unfolding origin
    origin_end f = rw (ne_eqb _ _ h, f)

    module _ {b e : ℕ} (f : field 1 p i ≡ got b e) where
      pub origin_new : b ≡ 1 → origin k p i ≡ got 0 e
      unfolding origin
      origin_new l = rw (ne_eqb _ _ h, f, eq-eqb _ _ l)

      module _ (l : b ≡ 1 → ⊥) where
        pub origin_last : k < 3 → origin k p i ≡ got 1 e
        unfolding origin
        origin_last m = rw (ne_eqb _ _ h, f, ne_eqb _ _ l, lt-ltb _ _ m)

        module _ (m : 3 ≤ k) where
          pub origin_end2 : {j d : ℕ} → field 1 p e ≡ refused j d → origin k p i ≡ refused j d
          unfolding origin
          origin_end2 g = rw (ne_eqb _ _ h, f, ne_eqb _ _ l, le-ltb _ _ m, g)

          pub origin_plane : {c d : ℕ} → field 1 p e ≡ got c d → c ≡ 1 → origin k p i ≡ got 3 d
          unfolding origin
          origin_plane g n = rw (ne_eqb _ _ h, f, ne_eqb _ _ l, le-ltb _ _ m, g, eq-eqb _ _ n)

          pub origin_before : {c d : ℕ} → field 1 p e ≡ got c d → (c ≡ 1 → ⊥) → origin k p i ≡ got 1 d
          unfolding origin
          origin_before g n = rw (ne_eqb _ _ h, f, ne_eqb _ _ l, le-ltb _ _ m, g, ne_eqb _ _ n)

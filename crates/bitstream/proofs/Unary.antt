-- Numbers in unary: bit by bit, their laws, and how large they are. Assumes nothing.
use Prim.Native.Nat.{ℕ, zero, suc, ◌+◌, ◌-◌, ◌≤◌, ◌<◌}
use native.Mathlib.Omega.{arith}
use mathlib.Core.Path.{◌≡◌, ap, ◌∙◌}
use mathlib.Core.List.{List}
use mathlib.Core.Bool.{Bool, true, false}
use lib.Dec.{eqb}
use borrow.Author.Tests.{eq-eqb, ne_eqb}
use Rattle.bitstream.specs.Lists.{among}
use Rattle.bitstream.specs.Reading.{got, refused, field, pure, pick, unary}
use Rattle.bitstream.proofs.Laws.{Lawful, pure_lawful, pick_lawful, bind_lawful, field_lawful, bind_got}
use Rattle.bitstream.proofs.Spends.{Spends, spends_more, pure_spends, field_spends, bind_spends, pick_spends}
use Rattle.bitstream.proofs.Inside.{Inside, pure_inside, pick_inside, bind_inside, field_inside, Refuses, pure_refuses, pick_refuses, bind_refuses, field_refuses}

-- one bit at a time
module _ (p : List ℕ) (i n r : ℕ) where
  pub unary_full : n ≤ r → unary (n - r) r p i ≡ got r i
  unfolding unary
  unary_full h = let z : n - r ≡ 0 = omega arith in rw z

  pub unary_end : r < n → {k e : ℕ} → field 1 p i ≡ refused k e → unary (n - r) r p i ≡ refused k e
  unfolding unary
  unary_end l f = let z : n - r ≡ suc (n - (r + 1)) = omega arith in rw (z, f)

  pub unary_stop : r < n → {b e : ℕ} → field 1 p i ≡ got b e → b ≡ 0 → unary (n - r) r p i ≡ got r e
  unfolding unary
  unary_stop l f h = let z : n - r ≡ suc (n - (r + 1)) = omega arith in rw (z, f, eq-eqb _ _ h)

  unary_suc : (m : ℕ) {b e : ℕ} → field 1 p i ≡ got b e → (b ≡ 0 → ⊥) → unary (suc m) r p i ≡ unary m (r + 1) p e
  unfolding unary
  unary_suc m f h = rw (f, ne_eqb _ _ h)

  pub unary_on : r < n → {b e : ℕ} → field 1 p i ≡ got b e → (b ≡ 0 → ⊥) → unary (n - r) r p i ≡ unary (n - (r + 1)) (r + 1) p e
  unary_on l f h = let z : n - r ≡ suc (n - (r + 1)) = omega arith in ap (λ (m : ℕ). unary m r p i) z ∙ unary_suc (n - (r + 1)) f h

-- it is at most what it may be
pub unary_most : (n r : ℕ) (p : List ℕ) (i v e : ℕ) → unary n r p i ≡ got v e → v ≤ r + n
unfolding unary
unary_most zero r p i v e h = let z : r ≡ v = cc in omega (arith, z)
unary_most (suc n) r p i v e h =
    let u = bind_got (field 1) (λ b. pick (eqb b 0) (pure r) (unary n (r + 1))) p i h in
    go (eqb u.0 0) u.1 u.3 (λ j x. unary_most n (r + 1) p j v e x)
  where
    go : (b : Bool) (j : ℕ) → pick b (pure r) (unary n (r + 1)) p j ≡ got v e → ((j : ℕ) → unary n (r + 1) p j ≡ got v e → v ≤ r + 1 + n) → v ≤ r + suc n
    go true j x f = let z : r ≡ v = cc in omega (arith, z)
    go false j x f = omega (arith, f j x)

-- the laws
pub unary_lawful : (n r : ℕ) → Lawful (unary n r)
unfolding unary
unary_lawful zero r = pure_lawful r
unary_lawful (suc n) r = bind_lawful (field_lawful 1) (λ b. pick_lawful (eqb b 0) (pure_lawful r) (unary_lawful n (r + 1)))

pub unary_spends : (n r : ℕ) → Spends n (unary n r)
unfolding unary
unary_spends zero r = pure_spends r
unary_spends (suc n) r = spends_more (omega arith) (bind_spends {b = n} (field_spends 1) (λ b. pick_spends (eqb b 0) (λ _. spends_more (omega arith) (pure_spends r)) (λ _. unary_spends n (r + 1))))

pub unary_inside : {d : ℕ} (n r : ℕ) → Inside d (unary n r)
unfolding unary
unary_inside zero r = pure_inside r
unary_inside (suc n) r = bind_inside (field_inside 1) (λ b. pick_inside (eqb b 0) (pure_inside r) (unary_inside n (r + 1)))

pub unary_refuses : {ks : List ℕ} → among ks 4 ≡ true → (n r : ℕ) → Refuses ks (unary n r)
unfolding unary
unary_refuses h zero r = pure_refuses r
unary_refuses h (suc n) r = bind_refuses (field_refuses 1 h) (λ b. pick_refuses (eqb b 0) (pure_refuses r) (unary_refuses h n (r + 1)))

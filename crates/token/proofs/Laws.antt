-- The laws of a token's extra bits, and how large what they mean is. Assumes nothing.
use Prim.Native.Nat.{ℕ, ◌+◌, ◌-◌, ◌^◌, ◌≤◌, ◌<◌}
use native.Mathlib.Omega.{arith}
use mathlib.Core.Path.{◌≡◌, refl, ap, ◌∙◌}
use mathlib.Core.List.{List}
use mathlib.Core.Bool.{Bool, true, false}
use lib.Dec.{T, leb, ltb, eqb, leb→le}
use lib.IntN.{nat_abs}
use lib.ListN.{get_or, drop}
use lib.Seq.{get_or-drop}
use borrow.Author.Tests.{ltb-true, ltb-false, eqb-true, eqb-false}
use Rattle.bitstream.specs.Lists.{among}
use Rattle.bitstream.specs.Reading.{got, bind, pure, field, choose}
use Rattle.bitstream.proofs.Fields.{field_lt}
use Rattle.bitstream.proofs.Laws.{Lawful, lawful, bind_got}
use Rattle.bitstream.proofs.Inside.{Inside, inside, Refuses, refuses}
use Rattle.bitstream.proofs.Spends.{Spends, spends_more, field_spends, bind_spends, pure_spends}
use Rattle.numeric.specs.Sign.{with_sign}
use Rattle.numeric.proofs.SignLaws.{sign_size}
use Rattle.token.specs.Token.{Meaning, end_of_block, zero_run, coefficient, counted, rows, row_of, meaning, extra}
use Rattle.token.proofs.Rows.{every_at, bits_most}

pub extra_lawful : (t : ℕ) → Lawful (extra t)
unfolding extra
extra_lawful t = search lawful depth 10

pub extra_inside : {d : ℕ} (t : ℕ) → Inside d (extra t)
unfolding extra
extra_inside t = search inside depth 10

pub extra_refuses : {ks : List ℕ} → among ks 4 ≡ true → (t : ℕ) → Refuses ks (extra t)
unfolding extra
extra_refuses four t = search (refuses, four) depth 10

-- at most 12 bits
pub extra_spends : (t : ℕ) → Spends 12 (extra t)
unfolding extra
extra_spends t =
    spends_more (omega (arith, bits_most t))
    (bind_spends (field_spends (row_of t).sign_bits)
    (λ s. bind_spends (field_spends (row_of t).size_bits) (λ n. bind_spends {b = 0} (field_spends (row_of t).zero_bits) (λ z. pure_spends _))))

-- what a token can mean: a run of zeros has at least one; a value is at most 580 in size
abbrev pub Sound : Meaning → Type 0
Sound (end_of_block n) = Unit {0}
Sound (zero_run n) = 0 < n
Sound (coefficient n v) = nat_abs v ≤ 580

-- a run of zeros is the token 7 or 8, whose size starts at 1
zero_size : (t : ℕ) → 7 ≤ t → t < 9 → 0 < (row_of t).size_base
unfolding row_of
zero_size t h l = go (eqb t 7) refl
  where
    go : (b : Bool) → eqb t 7 ≡ b → 0 < (row_of t).size_base
    go true e = let z : t ≡ 7 = eqb-true t 7 e in rw z (omega arith)
    go false e = let n = eqb-false t 7 e in let z : t ≡ 8 = omega arith in rw z (omega arith)

-- the tokens from 9 on have values, of which 69 plus 9 bits is the largest
size_most : (t n : ℕ) → 9 ≤ t → n < 2 ^ (row_of t).size_bits → (row_of t).size_base + n ≤ 580
unfolding row_of
size_most t n h l =
    let at : 9 + (t - 9) ≡ t = omega arith in
    let same : get_or (drop 9 rows) (t - 9) (counted 0 0) ≡ row_of t = get_or-drop 9 rows (t - 9) (counted 0 0) ∙ ap row_of at in
    let test : T (leb ((row_of t).size_base + 2 ^ (row_of t).size_bits) 581) =
    rw (← same) (every_at (λ r. leb (r.size_base + 2 ^ r.size_bits) 581) (drop 9 rows) tt (t - 9)) in
    omega (arith, leb→le ((row_of t).size_base + 2 ^ (row_of t).size_bits) 581 test)

pub meaning_sound : (t s n z : ℕ) → (7 ≤ t → t < 9 → 0 < n) → (9 ≤ t → n ≤ 580) → Sound (meaning t s n z)
unfolding meaning
meaning_sound t s n z f g = go (ltb t 7) (ltb t 9) refl refl
  where
    go : (b c : Bool) → ltb t 7 ≡ b → ltb t 9 ≡ c → Sound (choose b (end_of_block n) (choose c (zero_run n) (coefficient z (with_sign s n))))
    go true c x y = tt
    go false true x y = f (ltb-false t 7 x) (ltb-true t 9 y)
    go false false x y = rw (sign_size s n) (g (ltb-false t 9 y))

pub extra_sound : (t : ℕ) (p : List ℕ) (i : ℕ) {m : Meaning} {e : ℕ} → extra t p i ≡ got m e → Sound m
unfolding extra
extra_sound t p i {m} {e} h =
    let r = row_of t in
    let u = bind_got (field r.sign_bits) (λ s. bind (field r.size_bits) (λ n. bind (field r.zero_bits) (λ z. pure (meaning t (r.sign_base + s) (r.size_base + n) (r.zero_base + z))))) p i h in
    let v = bind_got (field r.size_bits) (λ n. bind (field r.zero_bits) (λ z. pure (meaning t (r.sign_base + u.0) (r.size_base + n) (r.zero_base + z)))) p u.1 u.3 in
    let w = bind_got (field r.zero_bits) (λ z. pure (meaning t (r.sign_base + u.0) (r.size_base + v.0) (r.zero_base + z))) p v.1 v.3 in
    let q : meaning t (r.sign_base + u.0) (r.size_base + v.0) (r.zero_base + w.0) ≡ m = cc in
    rw (← q) (meaning_sound t _ _ _ (λ a b. omega (arith, zero_size t a b)) (λ a. size_most t v.0 a (field_lt r.size_bits p u.1 v.2)))

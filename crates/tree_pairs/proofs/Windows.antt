-- What a window shows of a packet: the forks before a leaf, the leaf and its token. Assumes nothing.
use Prim.Native.Nat.{ℕ, zero, suc, ◌+◌, ◌-◌, ◌*◌, ◌/◌, ◌%◌, ◌^◌, ◌≤◌, ◌<◌}
use native.Mathlib.Omega.{arith}
use native.Mathlib.Nat.{add-mul, mul_assoc, mul-le-mul_right}
use mathlib.Core.Path.{◌≡◌, refl, sym, ap, ap₂, ◌∙◌, subst}
use mathlib.Core.List.{List}
use lib.Count.{count_leading_zeros, leading_of_zero, leading_top}
use lib.Pow.{pow-add, shl_lt, low}
use Rattle.bitstream.specs.Bits.{bit_at, number}
use Rattle.bitstream.proofs.Numbers.{bit_lt, number_lt, number_one, number_add}
use Rattle.stored_trees.proofs.Loads.{parted, shows_filled}

-- ---- the upper v bits of w are those of the packet from the place q on
pub record Window (p : List ℕ) (q w v : ℕ) : Type 0 where
  pub most : v ≤ 64
  pub is : w ≡ number p q v * 2 ^ (64 - v)

-- enough of them for the leaves up to the next filling, of 14 bits at most
pub record Seen (p : List ℕ) (q w L : ℕ) : Type 0 where
  pub shown : ℕ
  pub window : Window p q w shown
  pub enough : 57 ≤ shown + 14 * (L % 4)

pub seen_filled : (p : List ℕ) (q w L : ℕ) → w ≡ number p (q / 8 * 8) 64 * 2 ^ (q % 8) % 2 ^ 64 → Seen p q w L
seen_filled p q w L h =
    let s = shows_filled p q w 0 0 h refl (omega arith) in
    record { shown = s.shown; window = record { most = s.most; is = s.is }; enough = omega (arith, s.enough) }

-- k bits further on
pub shifted : (p : List ℕ) (q w v k : ℕ) → k ≤ v → Window p q w v → Window p (q + k) (w * 2 ^ k % 2 ^ 64) (v - k)
shifted p q w v k h g =
    let m = v - k in
    let n = number p q k in
    let r = number p (q + k) m * 2 ^ (64 - v) in
    let l : v ≤ 64 = g.most in
    let x = parted p q v k m (omega arith) l in
    let s : 64 - k + k ≡ 64 = omega arith in
    let u : 64 - v + k ≡ 64 - m = omega arith in
    let b : 2 ^ (64 - k) * 2 ^ k ≡ 2 ^ 64 = sym (pow-add 2 (64 - k) k) ∙ ap (λ (j : ℕ). 2 ^ j) s in
    let c : w * 2 ^ k ≡ n * 2 ^ 64 + r * 2 ^ k = ap (λ (y : ℕ). y * 2 ^ k) (g.is ∙ x.0) ∙ (add-mul (n * 2 ^ (64 - k)) r (2 ^ k) ∙ ap (λ (y : ℕ). y + r * 2 ^ k) (mul_assoc n (2 ^ (64 - k)) (2 ^ k) ∙ ap (λ (y : ℕ). n * y) b)) in
    let t : r * 2 ^ k < 2 ^ 64 = subst (λ (j : ℕ). r * 2 ^ k < 2 ^ j) s (shl_lt (64 - k) k x.1) in
    let d : r * 2 ^ k ≡ number p (q + k) m * 2 ^ (64 - m) = mul_assoc (number p (q + k) m) (2 ^ (64 - v)) (2 ^ k) ∙ ap (λ (y : ℕ). number p (q + k) m * y) (sym (pow-add 2 (64 - v) k) ∙ ap (λ (j : ℕ). 2 ^ j) u) in
    record { most = omega arith; is = ap (λ (y : ℕ). y % 2 ^ 64) c ∙ (low n 64 t ∙ d) }

-- ---- zeros, and the 1 behind them
no_times : (n k r b : ℕ) → n * k + r ≡ b → b < k → n ≡ 0
no_times zero k r b e l = refl
no_times (suc n) k r b e l = let m : 1 * k ≤ suc n * k = mul-le-mul_right k (omega arith) in absurd (omega (arith, m, e, l))

one_time : (n k r b : ℕ) → n < 2 → n * k + r ≡ b → r < k → k ≤ b → n ≡ 1
one_time zero k r b s e l h = absurd (omega (arith, e, l, h))
one_time (suc zero) k r b s e l h = refl
one_time (suc (suc n)) k r b s e l h = absurd (omega (arith, s))

module _ (p : List ℕ) (q z : ℕ) where
  -- bits of a number that is 0
  pub zero_bits : number p q z ≡ 0 → (k : ℕ) → k < z → bit_at p (q + k) ≡ 0
  zero_bits h k l =
      let m = z - k - 1 in
      let e : k + (1 + m) ≡ z = omega arith in
      let x = number_add p q k (1 + m) in
      let y = number_add p (q + k) 1 m in
      let n : number p q (k + (1 + m)) ≡ 0 = ap (number p q) e ∙ h in
      let o : number p (q + k) 1 * 2 ^ m + number p (q + k + 1) m ≡ 0 = omega (arith, x, y, n) in
      sym (number_one p (q + k)) ∙ no_times (number p (q + k) 1) (2 ^ m) 0 0 (omega (arith, o)) (number_lt_pos m)
    where
      number_lt_pos : (m : ℕ) → 0 < 2 ^ m
      number_lt_pos m = omega (arith, number_lt p q m)

-- ---- the zeros in front and the 1 behind them, the leaf in front, its token
module _ (p : List ℕ) (q w v : ℕ) (g : Window p q w v) where
  window_fits : w < 2 ^ 64
  window_fits =
      let l : v ≤ 64 = g.most in
      let e : v + (64 - v) ≡ 64 = omega arith in
      subst (λ (n : ℕ). n < 2 ^ 64) (sym g.is) (subst (λ (n : ℕ). number p q v * 2 ^ (64 - v) < 2 ^ n) e (shl_lt v (64 - v) (number_lt p q v)))

  module _ (y : ℕ) (is : y ≡ count_leading_zeros 64 w) (few : y ≤ 8) where
    bounds : (2 ^ (63 - y) ≤ w) × (w < 2 ^ (64 - y))
    bounds = go w refl
      where
        go : (x : ℕ) → w ≡ x → (2 ^ (63 - y) ≤ w) × (w < 2 ^ (64 - y))
        go zero e = let z : y ≡ 64 = is ∙ (ap (count_leading_zeros 64) e ∙ leading_of_zero 64) in absurd (omega (arith, z, few))
        go (suc x) e =
            let t = leading_top 64 w (omega (arith, e)) window_fits in
            let a : t.0 ≡ 63 - y = omega (arith, t.1, is) in
            let b : suc t.0 ≡ 64 - y = omega (arith, t.1, is) in
            (subst (λ (n : ℕ). 2 ^ n ≤ w) a t.2, subst (λ (n : ℕ). w < 2 ^ n) b t.3)

    pub front_zeros : y ≤ v → number p q y ≡ 0
    front_zeros h =
        let x = parted p q v y (v - y) (omega arith) g.most in
        no_times (number p q y) (2 ^ (64 - y)) (number p (q + y) (v - y) * 2 ^ (64 - v)) w (sym (g.is ∙ x.0)) bounds.1

    pub front_one : y + 1 ≤ v → bit_at p (q + y) ≡ 1
    front_one h =
        let x = parted p q v (y + 1) (v - (y + 1)) (omega arith) g.most in
        let e : 64 - (y + 1) ≡ 63 - y = omega arith in
        let n : number p q (y + 1) ≡ bit_at p (q + y) = number_add p q y 1 ∙ (ap (λ (k : ℕ). k * 2 ^ 1 + number p (q + y) 1) (front_zeros (omega (arith, h))) ∙ (omega arith ∙ number_one p (q + y))) in
        let s : bit_at p (q + y) * 2 ^ (63 - y) + number p (q + (y + 1)) (v - (y + 1)) * 2 ^ (64 - v) ≡ w =
        sym (g.is ∙ (x.0 ∙ ap₂ (λ (k m : ℕ). k * 2 ^ m + number p (q + (y + 1)) (v - (y + 1)) * 2 ^ (64 - v)) n e)) in
        one_time (bit_at p (q + y)) (2 ^ (63 - y)) (number p (q + (y + 1)) (v - (y + 1)) * 2 ^ (64 - v)) w (bit_lt p (q + y)) s (subst (λ (m : ℕ). number p (q + (y + 1)) (v - (y + 1)) * 2 ^ (64 - v) < 2 ^ m) e x.1) bounds.0

  pub top_bit : 1 ≤ v → 2 ^ 63 ≤ w → bit_at p q ≡ 1
  top_bit h l = let x = parted p q v 1 (v - 1) (omega arith) g.most in omega (arith, g.is, x.0, x.1, number_one p q, bit_lt p q, l)

  pub top_token : 6 ≤ v → w / 2 ^ 58 % 32 ≡ number p (q + 1) 5
  top_token h =
      let x = parted p q v 6 (v - 6) (omega arith) g.most in
      omega (arith, g.is, x.0, x.1, number_add p q 1 5, number_lt p (q + 1) 5)

-- What the functions compute, step by step, over plain numbers and lists. Assumes nothing.
use Prim.Native.Nat.{ℕ, zero, ◌+◌, ◌-◌, ◌*◌, ◌/◌, ◌%◌, ◌^◌, ◌≤◌, ◌<◌, min}
use native.Mathlib.Omega.{arith}
use native.Mathlib.Nat.{zero-mul, one-mul, zero-add}
use native.Mathlib.Numerals.{add-one}
use mathlib.Core.Path.{◌≡◌, refl, sym, ap, ◌∙◌}
use mathlib.Core.List.{List, ◌++◌}
use mathlib.Core.Bool.{Bool, true, false}
use lib.Dec.{eqb, ltb}
use lib.Bits.{bit_or, or_add_and, and_le_l, and_le_r}
use lib.ListN.{length, get_or, take, drop, set, replicate, length-append, length-drop, length-replicate, length-set, get_or-replicate, get_or-append}
use lib.Seq.{get_or-append-add, get_or-set_same, get_or-set_other, get_or-take, get_or-drop, length-take-le, paste-suc}
use lib.Pow.{shl_exact, shr_mod, split, pow_pos}
use borrow.Author.Tests.{eq-eqb, ne_eqb, eqb-true, eqb-false, ltb-true, ltb-false}
use Rattle.bitstream.specs.Bits.{bits, number}
use Rattle.table_memory.specs.Kept.{kept_byte, kept, clear_from}
use Rattle.bitstream.proofs.Numbers.{number_add}
use Rattle.bitstream.proofs.Bytes.{number_byte, byte_number}
use Rattle.bitstream.proofs.Lists.{tabulated_is}
use Rattle.table_memory.proofs.Bits.{number_zero, zero_number}

-- ---- one byte of what is kept
one_low : (s : ℕ) → s < 8 → (1 * 2 ^ s) % 2 ^ 8 ≡ 2 ^ s
one_low s h = shl_exact {a = 1} 1 s 8 (omega arith) (omega arith) ∙ one-mul (2 ^ s)

pub low_pos : (s : ℕ) → s < 8 → 0 < (1 * 2 ^ s) % 2 ^ 8
low_pos s h = rw (one_low s h) (pow_pos s)

module _ (p : List ℕ) (e k : ℕ) where
  pub byte_none : e ≤ k * 8 → 0 ≡ kept_byte p e k
  unfolding kept_byte number
  byte_none h = let z : min 8 (e - k * 8) ≡ 0 = omega arith in rw (z, zero-mul)

  pub byte_whole : 8 ≤ e - k * 8 → get_or p k 0 < 256 → get_or p k 0 ≡ kept_byte p e k
  unfolding kept_byte
  byte_whole h b = let z : min 8 (e - k * 8) ≡ 8 = omega arith in rw (z, byte_number p k b) (omega arith)

pub byte_part : (p : List ℕ) (e : ℕ) → (e % 8 ≡ 0 → ⊥) → get_or p (e / 8) 0 < 256 → get_or p (e / 8) 0 - get_or p (e / 8) 0 % ((1 * 2 ^ (8 - e % 8)) % 2 ^ 8) ≡ kept_byte p e (e / 8)
unfolding kept_byte
byte_part p e h b =
    let k = e / 8 in
    let r = e % 8 in
    let z : min 8 (e - k * 8) ≡ r = omega arith in
    let e₁ : k * 8 / 8 ≡ k = omega arith in
    let e₂ : 8 - k * 8 % 8 - r ≡ 8 - r = omega arith in
    let w : r + (8 - r) ≡ 8 = omega arith in
    let n : number p (k * 8) r ≡ get_or p k 0 / 2 ^ (8 - r) = number_byte p (k * 8) r (omega arith) ∙ rw (e₁, e₂) (shr_mod r (8 - r) (rw w b)) in
    rw (one_low (8 - r) (omega arith), z, n) (omega (arith, split (get_or p k 0) (8 - r)))

-- ---- a copy to the front, after k turns
abbrev pub copied : List ℕ → List ℕ → ℕ → List ℕ
copied d s k = take k s ++ drop k d

pub copied_more : (d s : List ℕ) (k : ℕ) → k < length d → k < length s → set (copied d s k) k (get_or s k 0) ≡ copied d s (k + 1)
copied_more d s k h l = rw (add-one k) (simp zero-add at (paste-suc d 0 s k 0 (rw zero-add h) l))

module _ (d s : List ℕ) (k : ℕ) (h : k ≤ length d) (l : k ≤ length s) where
  pub copied_length : length (copied d s k) ≡ length d
  copied_length = simp (length-append, length-take-le k s l, length-drop) (omega arith)

  copied_front : (j : ℕ) → j < k → get_or (copied d s k) j 0 ≡ get_or s j 0
  copied_front j u = get_or-append (take k s) (drop k d) 0 j (omega (arith, length-take-le k s l)) ∙ get_or-take k s j 0 u

  copied_back : (j : ℕ) → k ≤ j → get_or (copied d s k) j 0 ≡ get_or d j 0
  copied_back j u =
      let e : length (take k s) + (j - k) ≡ j = omega (arith, length-take-le k s l) in
      ap (λ (x : ℕ). get_or (copied d s k) x 0) (sym e) ∙ get_or-append-add (take k s) (drop k d) (j - k) 0 ∙ get_or-drop k d (j - k) 0 ∙ ap (λ (x : ℕ). get_or d x 0) (omega arith)

-- ---- what is kept: whole bytes, and over zeros a part of one behind them
module _ (p : List ℕ) (e n : ℕ) (room : e ≤ bits p) (bytes : (k : ℕ) → get_or p k 0 < 256) where
  pub kept_whole : (d : List ℕ) → length d ≡ n → n ≤ e / 8 → copied d p n ≡ kept p e n
  unfolding kept
  kept_whole d h l =
      tabulated_is (kept_byte p e) n (copied d p n) (copied_length d p n (omega arith) (omega arith) ∙ h)
      (λ j u. copied_front d p n (omega arith) (omega arith) j u ∙ byte_whole p e j (omega arith) (bytes j))

  abbrev front : List ℕ
  front = copied (replicate n 0) p (e / 8)

  module _ (b : ℕ) (l : e / 8 < n) (is : b ≡ kept_byte p e (e / 8)) where
    wide : e / 8 ≤ length (replicate n (zero))
    wide = rw (length-replicate n (zero)) (omega arith)

    size : length front ≡ n
    size = copied_length (replicate n 0) p (e / 8) wide (omega arith) ∙ length-replicate n 0

    part_at : (j : ℕ) → j < n → (t r : Bool) → ltb j (e / 8) ≡ t → eqb j (e / 8) ≡ r → get_or (set front (e / 8) b) j 0 ≡ kept_byte p e j
    part_at j u true r x y =
        let k = ltb-true j (e / 8) x in
        get_or-set_other front (e / 8) j b 0 (λ z. omega (arith, k, z)) ∙ copied_front (replicate n 0) p (e / 8) wide (omega arith) j k ∙ byte_whole p e j (omega arith) (bytes j)
    part_at j u false true x y = rw (eqb-true j (e / 8) y) (get_or-set_same front (e / 8) b 0 (omega (arith, size)) ∙ is)
    part_at j u false false x y =
        let k : e / 8 < j = omega (arith, ltb-false j (e / 8) x, eqb-false j (e / 8) y) in
        get_or-set_other front (e / 8) j b 0 (λ z. omega (arith, k, z)) ∙ copied_back (replicate n 0) p (e / 8) wide (omega arith) j (omega arith) ∙ get_or-replicate n j 0 0 u ∙ byte_none p e j (omega arith)

    pub kept_part : set front (e / 8) b ≡ kept p e n
    unfolding kept
    kept_part = tabulated_is (kept_byte p e) n (set front (e / 8) b) (length-set front (e / 8) b ∙ size) (λ j u. part_at j u (ltb j (e / 8)) (eqb j (e / 8)) refl refl)

-- ---- whether the rest is 0
pub or_zero : (a b : ℕ) → bit_or a b ≡ 0 → (a ≡ 0) × (b ≡ 0)
or_zero a b h = let e = or_add_and a b in let l = and_le_l a b in let r = and_le_r a b in (omega arith, omega arith)

pub zero_or : (a b : ℕ) → a ≡ 0 → b ≡ 0 → bit_or a b ≡ 0
zero_or a b h l = let e = or_add_and a b in omega arith

-- the bits from e on, and the byte in which e stands
module _ (t : List ℕ) (e : ℕ) where
  pub rest_none : bits t ≤ e → true ≡ clear_from t e
  unfolding clear_from number
  rest_none h = let z : bits t - e ≡ 0 = omega arith in rw z

  one_part : (1 * 2 ^ (8 - e % 8)) % 2 ^ 32 ≡ 2 ^ (8 - e % 8)
  one_part = shl_exact {a = 1} 1 (8 - e % 8) 32 (omega arith) (omega arith) ∙ one-mul (2 ^ (8 - e % 8))

  pub part_pos : 0 < (1 * 2 ^ (8 - e % 8)) % 2 ^ 32
  part_pos = rw one_part (pow_pos (8 - e % 8))

  part_number : get_or t (e / 8) 0 % ((1 * 2 ^ (8 - e % 8)) % 2 ^ 32) ≡ number t e (8 - e % 8)
  part_number =
      let z : 8 - e % 8 - (8 - e % 8) ≡ 0 = omega arith in
      let q : get_or t (e / 8) 0 / 2 ^ 0 ≡ get_or t (e / 8) 0 = omega arith in
      rw one_part (sym (number_byte t e (8 - e % 8) (omega arith) ∙ rw (z, q)))

  pub part_not : e < bits t → (get_or t (e / 8) 0 % ((1 * 2 ^ (8 - e % 8)) % 2 ^ 32) ≡ 0 → ⊥) → false ≡ clear_from t e
  unfolding clear_from
  part_not l n = sym (ne_eqb _ _ (λ z. n (part_number ∙ zero_number t e (8 - e % 8) (λ k a b. number_zero t e (bits t - e) z k (omega arith) (omega arith)))))

  -- so far nothing but zeros if rest is 0, and rest is 0 if nothing but zeros stands behind e at all
  abbrev pub Swept : ℕ → ℕ → Type 0
  Swept rest k = (rest ≡ 0 → number t e (k * 8 - e) ≡ 0) × (number t e (bits t - e) ≡ 0 → rest ≡ 0)

  pub swept_start : get_or t (e / 8) 0 % ((1 * 2 ^ (8 - e % 8)) % 2 ^ 32) ≡ 0 → Swept 0 (e / 8 + 1)
  swept_start h = (λ _. let s : (e / 8 + 1) * 8 - e ≡ 8 - e % 8 = omega arith in rw s (sym part_number ∙ h), λ _. refl)

  pub swept_more : (rest k : ℕ) → e / 8 < k → k < length t → get_or t k 0 < 256 → Swept rest k → Swept (bit_or rest (get_or t k 0)) (k + 1)
  swept_more rest k a l b (f, g) =
      let n : number t (k * 8) 8 ≡ get_or t k 0 = byte_number t k b in
      let s : (k + 1) * 8 - e ≡ (k * 8 - e) + 8 = omega arith in
      let c : e + (k * 8 - e) ≡ k * 8 = omega arith in (
        λ z. let o = or_zero rest (get_or t k 0) z in rw (s, number_add t e (k * 8 - e) 8, f o.0, c, n, o.1) (omega arith),
        λ z. zero_or rest (get_or t k 0) (g z) (sym n ∙ zero_number t (k * 8) 8 (λ j u w. number_zero t e (bits t - e) z j (omega arith) (omega arith))),
      )

  pub swept_all : (rest k : ℕ) → e / 8 < k → length t ≤ k → k ≤ length t → Swept rest k → eqb rest 0 ≡ clear_from t e
  unfolding clear_from
  swept_all rest k a h l (f, g) = go (eqb rest 0) refl
    where
      same : k * 8 - e ≡ bits t - e
      same = omega arith

      go : (b : Bool) → eqb rest 0 ≡ b → b ≡ eqb (number t e (bits t - e)) 0
      go true z = sym (eq-eqb _ _ (rw same at (f (eqb-true _ _ z))))
      go false z = sym (ne_eqb _ _ (λ y. eqb-false _ _ z (g y)))

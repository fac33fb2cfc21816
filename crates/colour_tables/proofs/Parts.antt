-- The parts of a pixel that chroma samples add, and rows of nine of them. Assumes nothing.
use Prim.Native.Nat.{ℕ, zero, suc, ◌+◌, ◌-◌, ◌*◌, ◌/◌, ◌%◌, ◌≤◌, ◌<◌}
use native.Mathlib.Nat.{zero-mul, suc-mul}
use native.Mathlib.Omega.{arith}
use mathlib.Core.Path.{◌≡◌, refl, sym, ap, ◌∙◌, subst}
use mathlib.Core.Bool.{Bool, true, false}
use mathlib.Core.List.{List, [], ◌∷◌, ◌++◌, append_assoc}
use lib.Dec.{T, ltb, lt→ltb, ltb→lt}
use lib.IntN.{ℤ, pos, nat_abs, ◌+ℤ◌}
use lib.ListN.{length, get_or, take, set, length-append, length-set}
use lib.Seq.{take-suc-set, take_all}
use Rattle.bitstream.specs.Reading.{choose}
use Rattle.numeric.proofs.Magnitude.{abs_add}
use Rattle.geometry.specs.Order.{in_turn}
use Rattle.geometry.proofs.Lists.{turn_at}
use Rattle.colour_tables.specs.declared.Chroma.{Chroma}
use Rattle.colour_tables.specs.Rule.{red_cr, green_cr, entry}
use Rattle.colour_tables.specs.Parts.{of_cb, of_cr, part_of, three, chroma_rows}
use Rattle.colour_tables.proofs.Tables.{red_at, green_cb_at, green_cr_at, blue_at}

-- three places more
pub three_more : (l : List ℤ) (at : ℕ) (a b c : ℤ) → at + 3 ≤ length l → take (at + 3) (set (set (set l at a) (at + 1) b) (at + 2) c) ≡ take at l ++ (a ∷ b ∷ c ∷ [])
three_more l at a b c h =
    let l1 = set l at a in
    let l2 = set l1 (at + 1) b in
    let n1 : length l1 ≡ length l = length-set l at a in
    let n2 : length l2 ≡ length l = length-set l1 (at + 1) b ∙ n1 in
    let e3 : at + 3 ≡ suc (at + 2) = omega arith in
    let e2 : at + 2 ≡ suc (at + 1) = omega arith in
    let e1 : at + 1 ≡ suc at = omega arith in
    ap (λ (n : ℕ). take n (set l2 (at + 2) c)) e3
    ∙ take-suc-set l2 (at + 2) c (omega arith)
    ∙ ap (λ (t : List ℤ). t ++ (c ∷ [])) (ap (λ (n : ℕ). take n l2) e2 ∙ take-suc-set l1 (at + 1) b (omega arith)
    ∙ ap (λ (t : List ℤ). t ++ (b ∷ [])) (ap (λ (n : ℕ). take n l1) e1 ∙ take-suc-set l at a (omega arith)))
    ∙ append_assoc (take at l ++ (a ∷ [])) (b ∷ []) (c ∷ [])
    ∙ append_assoc (take at l) (a ∷ []) (b ∷ c ∷ [])

-- lists of one length, one behind the other
pub turn_each : {A : Type 0} (f : ℕ → List A) (k n : ℕ) → ((i : ℕ) → length (f i) ≡ k) → length (in_turn f n) ≡ n * k
unfolding in_turn
turn_each f k zero h = sym (zero-mul k)
turn_each f k (suc n) h = length-append (in_turn f n) (f n) ∙ omega (arith, turn_each f k n h, h n, suc-mul n k)

pub turn_more : {A : Type 0} (f : ℕ → List A) (n : ℕ) → in_turn f (n + 1) ≡ in_turn f n ++ f n
unfolding in_turn
turn_more f n = let e : n + 1 ≡ suc n = omega arith in ap (λ (m : ℕ). in_turn f m) e

-- ---- parts: sample i of 512
below : (m n : ℕ) (b : Bool) → ltb m n ≡ b → m < n → b ≡ true
below m n true e h = refl
below m n false e h = absurd (subst (λ (b : Bool). T b) e (lt→ltb m n h))

above : (m n : ℕ) (b : Bool) → ltb m n ≡ b → n ≤ m → b ≡ false
above m n true e h = absurd (omega (arith, ltb→lt m n (subst (λ (b : Bool). T b) (sym e) tt), h))
above m n false e h = refl

pub part_cb : (v : ℕ) → v < 256 → part_of v ≡ of_cb v
unfolding part_of
part_cb v h = ap (λ (b : Bool). choose b (of_cb v) (of_cr (v - 256))) (below v 256 (ltb v 256) refl h)

pub part_cr : (i : ℕ) → 256 ≤ i → part_of i ≡ of_cr (i - 256)
unfolding part_of
part_cr i h = ap (λ (b : Bool). choose b (of_cb i) (of_cr (i - 256))) (above i 256 (ltb i 256) refl h)

-- no number of a part is large
pub cb_small : (v i : ℕ) → v < 256 → nat_abs (get_or (three (of_cb v)) i (pos 0)) ≤ 33587200
cb_small v zero h = let z : 0 ≤ 33587200 = omega arith in z
cb_small v (suc zero) h = omega (arith, (green_cb_at v h).small)
cb_small v (suc (suc zero)) h = omega (arith, (blue_at v h).small)
cb_small v (suc (suc (suc i))) h = let z : 0 ≤ 33587200 = omega arith in z

with_half : (z : ℤ) → nat_abs z ≤ 33554432 → nat_abs (z +ℤ pos 32768) ≤ 33587200
with_half z h = let a : nat_abs (z +ℤ pos 32768) ≤ nat_abs z + 32768 = abs_add z (pos 32768) in omega (arith, a, h)

pub cr_small : (v i : ℕ) → v < 256 → nat_abs (get_or (three (of_cr v)) i (pos 0)) ≤ 33587200
cr_small v zero h = with_half (entry red_cr v) (red_at v h).small
cr_small v (suc zero) h = with_half (entry green_cr v) (green_cr_at v h).small
cr_small v (suc (suc zero)) h = let z : 32768 ≤ 33587200 = omega arith in z
cr_small v (suc (suc (suc i))) h = let z : 0 ≤ 33587200 = omega arith in z

-- ---- rows of nine
abbrev pub row_part : ℕ → List ℤ
row_part k = three (part_of (k / 3))

rows_are : chroma_rows ≡ in_turn row_part 1536
unfolding chroma_rows
rows_are = refl

pub rows_length : length chroma_rows ≡ 4608
rows_length = ap length rows_are ∙ turn_each row_part 3 1536 (λ i. refl)

pub rows_done : (l : List ℤ) (k : ℕ) → length l ≡ 4608 → k ≡ 512 → take (9 * k) l ≡ in_turn row_part (3 * k) → l ≡ chroma_rows
rows_done l k n ek e = sym (take_all (9 * k) l (omega (arith, n, ek))) ∙ e ∙ ap (λ (z : ℕ). in_turn row_part (3 * z)) ek ∙ sym rows_are

part_more : (l m : List ℤ) (t at : ℕ) (c : Chroma) → c ≡ part_of (t / 3) → take at l ≡ in_turn row_part t → take (at + 3) m ≡ take at l ++ three c → take (at + 3) m ≡ in_turn row_part (t + 1)
part_more l m t at c ec e em = em ∙ (λ i. e i ++ three (ec i)) ∙ sym (turn_more row_part t)

-- a row more
pub row_more : (l a b m : List ℤ) (k : ℕ) (c : Chroma) → c ≡ part_of k → take (9 * k) l ≡ in_turn row_part (3 * k) → take (9 * k + 3) a ≡ take (9 * k) l ++ three c
    → take (9 * k + 3 + 3) b ≡ take (9 * k + 3) a ++ three c → take (9 * k + 6 + 3) m ≡ take (9 * k + 6) b ++ three c → take (9 * (k + 1)) m ≡ in_turn row_part (3 * (k + 1))
row_more l a b m k c ec e ea eb em =
    let k1 : k ≡ 3 * k / 3 = omega arith in
    let k2 : k ≡ (3 * k + 1) / 3 = omega arith in
    let k3 : k ≡ (3 * k + 1 + 1) / 3 = omega arith in
    let six : 9 * k + 3 + 3 ≡ 9 * k + 6 = omega arith in
    let all : 9 * (k + 1) ≡ 9 * k + 6 + 3 = omega arith in
    let end : 3 * k + 1 + 1 + 1 ≡ 3 * (k + 1) = omega arith in
    let one = part_more l a (3 * k) (9 * k) c (ec ∙ ap part_of k1) e ea in
    let two = part_more a b (3 * k + 1) (9 * k + 3) c (ec ∙ ap part_of k2) one eb in
    let last = part_more b m (3 * k + 1 + 1) (9 * k + 6) c (ec ∙ ap part_of k3) (sym (ap (λ (z : ℕ). take z b) six) ∙ two) em in
    ap (λ (z : ℕ). take z m) all ∙ last ∙ ap (in_turn row_part) end

row_at : (i j at : ℕ) → i < 512 → j < 9 → at ≡ 9 * i + j → get_or chroma_rows at (pos 0) ≡ get_or (three (part_of i)) (j % 3) (pos 0)
row_at i j at hi hj ea =
    let k = 3 * i + j / 3 in
    let front : length (in_turn row_part k) ≡ k * 3 = turn_each row_part 3 k (λ q. refl) in
    let place : at ≡ length (in_turn row_part k) + j % 3 = omega (arith, front, ea) in
    let whose : k / 3 ≡ i = omega arith in
    (λ q. get_or (rows_are q) (place q) (pos 0))
    ∙ turn_at row_part 1536 k (j % 3) (pos 0) (omega arith) (omega arith)
    ∙ ap (λ (z : ℕ). get_or (three (part_of z)) (j % 3) (pos 0)) whose

module _ (v first j : ℕ) (h : v < 256) (whole : first % 3 ≡ 0) (inside : first + j < 9) where
  turned : (first + j) % 3 ≡ j % 3
  turned = omega (arith, whole)

  pub cb_at : get_or chroma_rows (9 * v + first + j) (pos 0) ≡ get_or (three (of_cb v)) (j % 3) (pos 0)
  cb_at = row_at v (first + j) (9 * v + first + j) (omega (arith, h)) inside (omega arith) ∙ (λ q. get_or (three (part_cb v h q)) (turned q) (pos 0))

  pub cr_at : get_or chroma_rows (2304 + 9 * v + first + j) (pos 0) ≡ get_or (three (of_cr v)) (j % 3) (pos 0)
  cr_at =
      let z : 256 + v - 256 ≡ v = omega arith in
      row_at (256 + v) (first + j) (2304 + 9 * v + first + j) (omega (arith, h)) inside (omega arith)
      ∙ (λ q. get_or (three (part_cr (256 + v) (omega arith) q)) (turned q) (pos 0))
      ∙ ap (λ (n : ℕ). get_or (three (of_cr n)) (j % 3) (pos 0)) z

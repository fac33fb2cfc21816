-- The matrices of a list of qi, one after the other in a slice. Assumes nothing.
use Prim.Native.Nat.{ℕ, zero, suc, ◌+◌, ◌-◌, ◌*◌, ◌/◌, ◌%◌, ◌≤◌, ◌<◌}
use native.Mathlib.Omega.{arith}
use mathlib.Core.Path.{◌≡◌, refl, sym, ap, ◌∙◌}
use mathlib.Core.List.{List, [], ◌∷◌}
use mathlib.Core.Bool.{Bool, true, false}
use borrow.Author.Count.{below_more}
use borrow.Author.Tests.{ltb-true, ltb-false}
use lib.Dec.{ltb}
use lib.ListN.{length, get_or, take, drop}
use lib.Seq.{take-take, take_at, drop_at, drop-drop, length-take-le}
use borrow.Rule.Slice.PartMut.{put_mid, post_of, take_put, drop_put}
use Rattle.quantization.specs.Parameters.{Quantization}
use Rattle.quantization.specs.Sound.{Holds}
use Rattle.quantization.specs.declared.LoadedParameters.{LoadedParameters}
use Rattle.matrices.specs.Matrix.{matrix_of, MatrixIs}
use Rattle.matrices.specs.All.{AllMatricesAre}

-- ---- 64 elements put in the place of others
part_of_front : (l : List ℕ) (d a : ℕ) → d + 64 ≤ a → take 64 (drop d (take a l)) ≡ take 64 (drop d l)
part_of_front l zero a h = take-take 64 a l h
part_of_front [] (suc d) zero h = absurd (omega arith)
part_of_front [] (suc d) (suc a) h = refl
part_of_front (x ∷ l) (suc d) zero h = absurd (omega arith)
part_of_front (x ∷ l) (suc d) (suc a) h = part_of_front l d a (omega arith)

module _ (a w : ℕ) (z : w ≡ 64) (xs ys : List ℕ) (room : a + 64 ≤ length xs) (long : length ys ≡ 64) where
  put_here : take 64 (drop a (put_mid a w xs ys)) ≡ ys
  put_here = ap (take 64) (drop_at (take a xs) _ a (length-take-le a xs (omega arith))) ∙ take_at ys (post_of a w xs) 64 long

  put_before : (d : ℕ) → d + 64 ≤ a → take 64 (drop d (put_mid a w xs ys)) ≡ take 64 (drop d xs)
  put_before d h = sym (part_of_front (put_mid a w xs ys) d a h) ∙ ap (λ (l : List ℕ). take 64 (drop d l)) (take_put a w xs ys (omega arith)) ∙ part_of_front xs d a h

  put_behind : (d : ℕ) → a + 64 ≤ d → take 64 (drop d (put_mid a w xs ys)) ≡ take 64 (drop d xs)
  put_behind d h =
      let e : a + 64 + (d - (a + 64)) ≡ d = omega arith in
      let f : a + 64 - a ≡ w = omega arith in
      let g : drop (a + 64) (put_mid a w xs ys) ≡ drop (a + 64) xs = ap (λ (n : ℕ). drop (a + 64) (put_mid a n xs ys)) (sym f) ∙ drop_put a (a + 64) xs ys (omega arith) room (omega arith) in
      ap (λ (n : ℕ). take 64 (drop n (put_mid a w xs ys))) (sym e)
      ∙ ap (take 64) (sym (drop-drop (d - (a + 64)) (a + 64) (put_mid a w xs ys)) ∙ ap (drop (d - (a + 64))) g ∙ drop-drop (d - (a + 64)) (a + 64) xs)
      ∙ ap (λ (n : ℕ). take 64 (drop n xs)) e

-- ---- the matrices of the turns before turn j
-- the place of a turn's matrix
abbrev pub place_of : ℕ → ℕ
place_of i = (i % 6 * 3 + i / 6) * 64

module _ (p : List ℕ) (l : LoadedParameters) (qis : List ℕ) where
  abbrev pub LoadedTo : ℕ → List ℕ → Type 0
  LoadedTo j ms = (q : Quantization) → Holds p l q → (i : ℕ) → i < j → take 64 (drop (place_of i) ms) ≡ matrix_of q (i % 6 / 3) (i % 6 % 3) (get_or qis (i / 6) 0)

  pub loaded_more : (j w : ℕ) (ms new : List ℕ) → j < 18 → w ≡ 64 → length ms ≡ 1152 → length new ≡ 64 → LoadedTo j ms
      → MatrixIs p l (j % 6 / 3) (j % 6 % 3) (get_or qis (j / 6) 0) new → LoadedTo (j + 1) (put_mid (place_of j) w ms new)
  loaded_more j w ms new few z long sixty before this q h = below_more (λ i. take 64 (drop (place_of i) (put_mid (place_of j) w ms new)) ≡ matrix_of q (i % 6 / 3) (i % 6 % 3) (get_or qis (i / 6) 0)) j other (put_here (place_of j) w z ms new room sixty ∙ this q h)
    where
      room : place_of j + 64 ≤ length ms
      room = omega arith

      other : (i : ℕ) → i < j → take 64 (drop (place_of i) (put_mid (place_of j) w ms new)) ≡ matrix_of q (i % 6 / 3) (i % 6 % 3) (get_or qis (i / 6) 0)
      other i e = go (ltb (place_of i) (place_of j)) refl ∙ before q h i e
        where
          go : (t : Bool) → ltb (place_of i) (place_of j) ≡ t → take 64 (drop (place_of i) (put_mid (place_of j) w ms new)) ≡ take 64 (drop (place_of i) ms)
          go true t = put_before (place_of j) w z ms new room sixty (place_of i) (omega (arith, ltb-true (place_of i) (place_of j) t))
          go false t = put_behind (place_of j) w z ms new room sixty (place_of i) (omega (arith, ltb-false (place_of i) (place_of j) t))

  pub loaded_all : (count j : ℕ) (ms : List ℕ) → 6 * count ≤ j → LoadedTo j ms → AllMatricesAre p l qis count ms
  loaded_all count j ms most done type plane index t b n q h =
      let i = index * 6 + (type * 3 + plane) in
      let r : i % 6 ≡ type * 3 + plane = omega arith in
      let d : i / 6 ≡ index = omega arith in
      let x : i % 6 / 3 ≡ type = omega arith in
      let y : i % 6 % 3 ≡ plane = omega arith in
      (λ k. take 64 (drop ((sym r k * 3 + sym d k) * 64) ms)) ∙ done q h i (omega arith) ∙ (λ k. matrix_of q (x k) (y k) (get_or qis (d k) 0))

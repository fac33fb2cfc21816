-- What is lent as golden or previous by the buffer that is free, and the buffers once the frame stands in it. Assumes nothing.
use Prim.Native.Nat.{ℕ, zero, suc, ◌≤◌, ◌<◌}
use native.Mathlib.Omega.{arith}
use mathlib.Core.Path.{◌≡◌, refl, sym, ap, ◌∙◌}
use mathlib.Core.Bool.{Bool, true, false, not}
use mathlib.Core.List.{List, [], ◌∷◌}
use mathlib.Core.Logic.{◌≢◌}
use lib.Dec.{eqb}
use lib.ListN.{length, get_or, set}
use borrow.Author.Tests.{ne_eqb, le-ltb}
use Rattle.bitstream.specs.Reading.{choose}
use Rattle.frame_into.specs.Buffers.{buffer_of, index}

pub one_long : (b : Bool) (low high : List ℕ) {n : ℕ} {one : List ℕ} → one ≡ choose b high low → length low ≡ n → length high ≡ n → length one ≡ n
one_long true low high e l h = ap length e ∙ h
one_long false low high e l h = ap length e ∙ l

module _ (x y z : List ℕ) where
  abbrev Lent : ℕ → List ℕ → Type 0
  Lent k l = buffer_of (x ∷ y ∷ z ∷ []) k ≡ l

  pub big : (k : ℕ) → 3 ≤ k → Lent k y
  big k l = ap (λ (t : Bool). get_or (x ∷ y ∷ z ∷ []) (choose t k 1) []) (le-ltb k 3 l)

  pub lent_0 : (k : ℕ) → index k ≢ 0 → Lent k (choose (eqb k 2) z y)
  lent_0 zero h = absurd (h refl)
  lent_0 (suc zero) h = refl
  lent_0 (suc (suc zero)) h = refl
  lent_0 (suc (suc (suc k))) h = let n = suc (suc (suc k)) in big n (omega arith) ∙ ap (λ (t : Bool). choose t z y) (sym (ne_eqb n 2 (λ e. omega arith)))

  pub lent_1 : (k : ℕ) → index k ≢ 1 → Lent k (choose (eqb k 2) z x)
  lent_1 zero h = refl
  lent_1 (suc zero) h = absurd (h refl)
  lent_1 (suc (suc zero)) h = refl
  lent_1 (suc (suc (suc k))) h = let n = suc (suc (suc k)) in absurd (h (ap (λ (t : Bool). choose t n 1) (le-ltb n 3 (omega arith))))

  pub lent_2 : (k : ℕ) → index k ≢ 2 → Lent k (choose (not (eqb k 0)) y x)
  lent_2 zero h = refl
  lent_2 (suc zero) h = refl
  lent_2 (suc (suc zero)) h = absurd (h refl)
  lent_2 (suc (suc (suc k))) h = let n = suc (suc (suc k)) in big n (omega arith) ∙ ap (λ (t : Bool). choose (not t) y x) (sym (ne_eqb n 0 (λ e. omega arith)))

-- the third way of the free buffer
pub free_two : (j : ℕ) → j < 3 → (j ≡ 0 → ⊥) → (j ≡ 1 → ⊥) → j ≡ 2
free_two zero l h k = absurd (h refl)
free_two (suc zero) l h k = absurd (k refl)
free_two (suc (suc zero)) l h k = refl
free_two (suc (suc (suc j))) l h k = absurd (omega arith)

-- ---- the three buffers once a frame stands in the free one; F makes it of golden and previous
module _ (F : List ℕ → List ℕ → List ℕ) (x y z : List ℕ) (j g p : ℕ) (apart-g : index g ≢ j) (apart-p : index p ≢ j) where
  abbrev After : List (List ℕ) → Type 0
  After planes = planes ≡ set (x ∷ y ∷ z ∷ []) j (F (buffer_of (x ∷ y ∷ z ∷ []) g) (buffer_of (x ∷ y ∷ z ∷ []) p))

  pub put_0 : j ≡ 0 → {new : List ℕ} → new ≡ F (choose (eqb g 2) z y) (choose (eqb p 2) z y) → After (new ∷ y ∷ z ∷ [])
  put_0 ej e =
      let eg = lent_0 x y z g (λ h. apart-g (h ∙ sym ej)) in
      let ep = lent_0 x y z p (λ h. apart-p (h ∙ sym ej)) in
      (λ i. (e ∙ (λ i. F (sym eg i) (sym ep i))) i ∷ y ∷ z ∷ []) ∙ ap (λ (k : ℕ). set (x ∷ y ∷ z ∷ []) k (F (buffer_of (x ∷ y ∷ z ∷ []) g) (buffer_of (x ∷ y ∷ z ∷ []) p))) (sym ej)

  pub put_1 : j ≡ 1 → {new : List ℕ} → new ≡ F (choose (eqb g 2) z x) (choose (eqb p 2) z x) → After (x ∷ new ∷ z ∷ [])
  put_1 ej e =
      let eg = lent_1 x y z g (λ h. apart-g (h ∙ sym ej)) in
      let ep = lent_1 x y z p (λ h. apart-p (h ∙ sym ej)) in
      (λ i. x ∷ (e ∙ (λ i. F (sym eg i) (sym ep i))) i ∷ z ∷ []) ∙ ap (λ (k : ℕ). set (x ∷ y ∷ z ∷ []) k (F (buffer_of (x ∷ y ∷ z ∷ []) g) (buffer_of (x ∷ y ∷ z ∷ []) p))) (sym ej)

  pub put_2 : j ≡ 2 → {new : List ℕ} → new ≡ F (choose (not (eqb g 0)) y x) (choose (not (eqb p 0)) y x) → After (x ∷ y ∷ new ∷ [])
  put_2 ej e =
      let eg = lent_2 x y z g (λ h. apart-g (h ∙ sym ej)) in
      let ep = lent_2 x y z p (λ h. apart-p (h ∙ sym ej)) in
      (λ i. x ∷ y ∷ (e ∙ (λ i. F (sym eg i) (sym ep i))) i ∷ []) ∙ ap (λ (k : ℕ). set (x ∷ y ∷ z ∷ []) k (F (buffer_of (x ∷ y ∷ z ∷ []) g) (buffer_of (x ∷ y ∷ z ∷ []) p))) (sym ej)

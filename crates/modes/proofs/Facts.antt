-- The modes, step by step. Assumes nothing.
use Prim.Native.Nat.{ℕ, suc, ◌+◌, ◌-◌, ◌≤◌, ◌<◌}
use native.Mathlib.Omega.{arith}
use mathlib.Core.Path.{◌≡◌, ap, ◌∙◌}
use mathlib.Core.List.{List, [], ◌∷◌, ◌++◌}
use mathlib.Core.Bool.{true, false}
use borrow.Author.Tests.{eq-eqb, ne_eqb}
use Rattle.bitstream.specs.Reading.{Outcome, got, refused, field, unary}
use Rattle.bitstream.proofs.Laws.{whole_got, whole_refused}
use Rattle.mode_schemes.specs.Schemes.{sent_alphabet, mode_of_rank, luma_coded}
use Rattle.modes.specs.Modes.{mode, mode_of, modes_from, macro_modes, as_mode}
use Rattle.modes.specs.declared.Mode.{Mode}
use Rattle.modes.specs.declared.Mode.TheVariants.{Is, Refused}

-- ---- what an answer says of the outcome o, by its arm
pub mode_is : (o : Outcome ℕ) {r : Mode} {v e : ℕ} → r ≡ as_mode o → r ≡ Is v e → o ≡ got v e
mode_is (got a d) s g = cc
mode_is (refused k d) s g = let z : ◌≡◌ {A = ℕ} 0 1 = cc in absurd (omega arith)

pub mode_refused : (o : Outcome ℕ) {r : Mode} {k e : ℕ} → r ≡ as_mode o → r ≡ Refused k e → o ≡ refused k e
mode_refused (got a d) s g = let z : ◌≡◌ {A = ℕ} 0 1 = cc in absurd (omega arith)
mode_refused (refused k d) s g = cc

-- ---- one mode
module _ (scheme : ℕ) (alphabet p : List ℕ) (i : ℕ) where
  pub mode_raw : scheme ≡ 7 → mode scheme alphabet p i ≡ field 3 p i
  unfolding mode
  mode_raw h = rw (eq-eqb scheme 7 h)

  pub mode_cut : (scheme ≡ 7 → ⊥) → {k e : ℕ} → unary 7 0 p i ≡ refused k e → mode scheme alphabet p i ≡ refused k i
  unfolding mode
  mode_cut h f = rw (ne_eqb scheme 7 h, whole_refused (unary 7 0) p i f)

  pub mode_ranked : (scheme ≡ 7 → ⊥) → {r e : ℕ} → unary 7 0 p i ≡ got r e → mode scheme alphabet p i ≡ got (mode_of_rank scheme alphabet r) e
  unfolding mode
  mode_ranked h f = rw (ne_eqb scheme 7 h, whole_got (unary 7 0) p i f)

-- ---- the mode of a macro block
module _ (scheme : ℕ) (alphabet flags : List ℕ) (m : ℕ) (p : List ℕ) (i : ℕ) where
  pub mode_read : luma_coded flags m ≡ true → mode_of scheme alphabet flags m p i ≡ mode scheme alphabet p i
  unfolding mode_of
  mode_read h = rw h

  pub mode_none : luma_coded flags m ≡ false → mode_of scheme alphabet flags m p i ≡ got 0 i
  unfolding mode_of
  mode_none h = rw h

-- ---- one macro block more
module _ (scheme : ℕ) (alphabet flags p : List ℕ) (n m i : ℕ) (done : List ℕ) where
  pub modes_done : n ≤ m → modes_from scheme alphabet flags (n - m) m done p i ≡ got done i
  unfolding modes_from
  modes_done h = let z : n - m ≡ 0 = omega arith in rw z

  pub modes_end : m < n → {k e : ℕ} → mode_of scheme alphabet flags m p i ≡ refused k e → modes_from scheme alphabet flags (n - m) m done p i ≡ refused k e
  unfolding modes_from
  modes_end l f = let z : n - m ≡ suc (n - (m + 1)) = omega arith in rw (z, f)

  modes_suc : (j : ℕ) {v e : ℕ} → mode_of scheme alphabet flags m p i ≡ got v e
      → modes_from scheme alphabet flags (suc j) m done p i ≡ modes_from scheme alphabet flags j (m + 1) (done ++ v ∷ []) p e
  unfolding modes_from
  modes_suc j f = rw f

  pub modes_on : m < n → {v e : ℕ} → mode_of scheme alphabet flags m p i ≡ got v e
      → modes_from scheme alphabet flags (n - m) m done p i ≡ modes_from scheme alphabet flags (n - (m + 1)) (m + 1) (done ++ v ∷ []) p e
  modes_on l f =
      let z : n - m ≡ suc (n - (m + 1)) = omega arith in
      ap (λ (j : ℕ). modes_from scheme alphabet flags j m done p i) z ∙ modes_suc (n - (m + 1)) f

-- ---- the whole
module _ (flags : List ℕ) (n : ℕ) (p : List ℕ) (i : ℕ) where
  pub all_end : {k e : ℕ} → field 3 p i ≡ refused k e → macro_modes flags n p i ≡ refused k e
  unfolding macro_modes
  all_end f = rw f

  pub all_sent_end : {s e k d : ℕ} → field 3 p i ≡ got s e → sent_alphabet s p e ≡ refused k d → macro_modes flags n p i ≡ refused k d
  unfolding macro_modes
  all_sent_end f g = rw (f, g)

  pub all_each : {s e d : ℕ} {alphabet : List ℕ} → field 3 p i ≡ got s e → sent_alphabet s p e ≡ got alphabet d → macro_modes flags n p i ≡ modes_from s alphabet flags n 0 [] p d
  unfolding macro_modes
  all_each f g = rw (f, g)

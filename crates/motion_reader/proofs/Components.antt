-- How a vector is sent, step by step, and how large it can be. Assumes nothing.
use Prim.Native.Nat.{ℕ, zero, suc, ◌+◌, ◌-◌, ◌^◌, ◌≤◌, ◌<◌}
use native.Mathlib.Omega.{arith}
use mathlib.Core.Path.{◌≡◌, refl, sym, ap, ◌∙◌, subst}
use mathlib.Core.List.{List, [], ◌∷◌}
use mathlib.Core.Bool.{Bool, true, false}
use lib.Dec.{eqb, ltb}
use lib.IntN.{ℤ, pos, nat_abs}
use lib.ListN.{get_or}
use borrow.Author.Tests.{lt-ltb, le-ltb, eq-eqb, ne_eqb, ltb-false}
use Rattle.bitstream.specs.Reading.{Outcome, got, refused, bind, pure, pick, choose, field}
use Rattle.bitstream.proofs.Fields.{no_mix, field_lt}
use Rattle.bitstream.proofs.Laws.{bind_got, whole_cases}
use mir.Syntax.{w32}
use mir.Val.{to_z, of_z}
use mir.ValLaws.{to_z-of_z}
use Rattle.numeric.specs.Sign.{with_sign}
use Rattle.numeric.proofs.SignLaws.{sign_size}
use Rattle.numeric.proofs.Magnitude.{size, size_fits_law}
use Rattle.block_record.specs.declared.Vector.{Vector}
use Rattle.block_record.specs.Record.{VectorInRange}
use Rattle.motion_reader.specs.declared.ComponentRead.{ComponentRead}
use Rattle.motion_reader.specs.declared.ComponentRead.TheVariants as component-read
use Rattle.motion_reader.specs.declared.VectorRead.{VectorRead}
use Rattle.motion_reader.specs.declared.VectorRead.TheVariants as vector-read
use Rattle.motion_reader.specs.Component.{added, shortest, width, least, variable, by_code, component, vector, as_component, as_vector}

-- ---- what an answer says of the outcome o, by its arm
pub component_got : (o : Outcome ℤ) {r : ComponentRead} {v : ℤ} {e : ℕ} → r ≡ as_component o → r ≡ component-read.Got v e → o ≡ got v e
component_got (got a d) s g = cc
component_got (refused k d) s g = let z : ◌≡◌ {A = ℕ} 0 1 = cc in absurd (omega arith)

pub component_refused : (o : Outcome ℤ) {r : ComponentRead} {k e : ℕ} → r ≡ as_component o → r ≡ component-read.Refused k e → o ≡ refused k e
component_refused (got a d) s g = let z : ◌≡◌ {A = ℕ} 0 1 = cc in absurd (omega arith)
component_refused (refused k d) s g = cc

pub vector_got : (o : Outcome Vector) {r : VectorRead} {v : Vector} {e : ℕ} → r ≡ as_vector o → r ≡ vector-read.Got v e → o ≡ got v e
vector_got (got a d) s g = cc
vector_got (refused k d) s g = let z : ◌≡◌ {A = ℕ} 0 1 = cc in absurd (omega arith)

pub vector_refused : (o : Outcome Vector) {r : VectorRead} {k e : ℕ} → r ≡ as_vector o → r ≡ vector-read.Refused k e → o ≡ refused k e
vector_refused (got a d) s g = let z : ◌≡◌ {A = ℕ} 0 1 = cc in absurd (omega arith)
vector_refused (refused k d) s g = cc

-- a component that was stored is read back
pub kept : (z : ℤ) → nat_abs z ≤ 31 → to_z w32 (of_z w32 z) ≡ z
kept z h = to_z-of_z w32 z (size_fits_law w32 (size h) tt)

-- ---- a component of three bits
pub shortest_zero : (t : ℕ) → t ≡ 0 → pos 0 ≡ shortest t
unfolding shortest
shortest_zero t h = rw (eq-eqb t 0 h)

pub shortest_one : (t : ℕ) → (t ≡ 0 → ⊥) → with_sign (t - 1) 1 ≡ shortest t
unfolding shortest
shortest_one t h = rw (ne_eqb t 0 h)

shortest_small : (t : ℕ) → nat_abs (shortest t) ≤ 31
unfolding shortest
shortest_small t = go (eqb t 0)
  where
    go : (b : Bool) → nat_abs (choose b (pos 0) (with_sign (t - 1) 1)) ≤ 31
    go true = omega arith
    go false = omega (arith, sign_size (t - 1) 1)

-- ---- bits that are added, and a sign bit
module _ (n a : ℕ) (p : List ℕ) (i : ℕ) where
  pub added_end : {k e : ℕ} → field n p i ≡ refused k e → added n a p i ≡ refused k e
  unfolding added
  added_end f = rw f

  pub added_cut : {v e k d : ℕ} → field n p i ≡ got v e → field 1 p e ≡ refused k d → added n a p i ≡ refused k d
  unfolding added
  added_cut f g = rw (f, g)

  pub added_got : {v e s d : ℕ} → field n p i ≡ got v e → field 1 p e ≡ got s d → added n a p i ≡ got (with_sign s (a + v)) d
  unfolding added
  added_got f g = rw (f, g)

  added_small : a + 2 ^ n ≤ 32 → {z : ℤ} {e : ℕ} → added n a p i ≡ got z e → nat_abs z ≤ 31
  unfolding added
  added_small h {z} {e} r =
      let u = bind_got (field n) (λ v. bind (field 1) (λ s. pure (with_sign s (a + v)))) p i r in
      let w = bind_got (field 1) (λ s. pure (with_sign s (a + u.0))) p u.1 u.3 in
      let q : with_sign w.0 (a + u.0) ≡ z = cc in
      omega (arith, field_lt n p i u.2, sign_size w.0 (a + u.0), ap nat_abs q)

-- ---- the variable code
-- the widths and the least values of the prefixes from 011 on
pub long_fits : (t : ℕ) → 3 ≤ t → t < 8 → (width t ≤ 4) × (least t + 2 ^ width t ≤ 32)
unfolding width least
long_fits t l h = go (t - 3) (omega arith)
  where
    go : (j : ℕ) → j < 5 → (get_or (0 ∷ 0 ∷ 2 ∷ 3 ∷ 4 ∷ []) j 0 ≤ 4) × (get_or (2 ∷ 3 ∷ 4 ∷ 8 ∷ 16 ∷ []) j 0 + 2 ^ get_or (0 ∷ 0 ∷ 2 ∷ 3 ∷ 4 ∷ []) j 0 ≤ 32)
    go zero h = (omega arith, omega arith)
    go (suc zero) h = (omega arith, omega arith)
    go (suc (suc zero)) h = (omega arith, omega arith)
    go (suc (suc (suc zero))) h = (omega arith, omega arith)
    go (suc (suc (suc (suc zero)))) h = (omega arith, omega arith)
    go (suc (suc (suc (suc (suc j))))) h = absurd (omega arith)

module _ (p : List ℕ) (i : ℕ) where
  pub variable_end : {k e : ℕ} → field 3 p i ≡ refused k e → variable p i ≡ refused k e
  unfolding variable
  variable_end f = rw f

  pub variable_short : {t e : ℕ} → field 3 p i ≡ got t e → t < 3 → variable p i ≡ got (shortest t) e
  unfolding variable
  variable_short f h = rw (f, lt-ltb _ _ h)

  pub variable_long : {t e : ℕ} → field 3 p i ≡ got t e → 3 ≤ t → variable p i ≡ added (width t) (least t) p e
  unfolding variable
  variable_long f h = rw (f, le-ltb _ _ h)

  variable_small : {z : ℤ} {e : ℕ} → variable p i ≡ got z e → nat_abs z ≤ 31
  unfolding variable
  variable_small {z} {e} r =
      let u = bind_got (field 3) (λ t. pick (ltb t 3) (pure (shortest t)) (added (width t) (least t))) p i r in
      go u.0 u.1 (field_lt 3 p i u.2) (ltb u.0 3) refl u.3
    where
      go : (t d : ℕ) → t < 8 → (b : Bool) → ltb t 3 ≡ b → pick b (pure (shortest t)) (added (width t) (least t)) p d ≡ got z e → nat_abs z ≤ 31
      go t d h true b r = let q : shortest t ≡ z = cc in omega (arith, shortest_small t, ap nat_abs q)
      go t d h false b r = added_small (width t) (least t) p d (long_fits t (ltb-false t 3 b) h).1 r

-- ---- by either code
module _ (code : ℕ) (p : List ℕ) (i : ℕ) where
  pub code_variable : code ≡ 0 → by_code code p i ≡ variable p i
  unfolding by_code
  code_variable h = rw (eq-eqb code 0 h)

  pub code_five : (code ≡ 0 → ⊥) → by_code code p i ≡ added 5 0 p i
  unfolding by_code
  code_five h = rw (ne_eqb code 0 h)

  code_small : {z : ℤ} {e : ℕ} → by_code code p i ≡ got z e → nat_abs z ≤ 31
  unfolding by_code
  code_small {z} {e} r = go (eqb code 0) r
    where
      go : (b : Bool) → pick b variable (added 5 0) p i ≡ got z e → nat_abs z ≤ 31
      go true r = variable_small p i r
      go false r = added_small 5 0 p i (omega arith) r

  pub component_small : {z : ℤ} {e : ℕ} → component code p i ≡ got z e → nat_abs z ≤ 31
  unfolding component
  component_small r = whole_cases (by_code code) p i (λ a d s w. code_small (s ∙ (sym w ∙ r))) (λ k d s w. no_mix (sym r ∙ w))

-- ---- x then y
module _ (code : ℕ) (p : List ℕ) (i : ℕ) where
  pub vector_end : {k e : ℕ} → component code p i ≡ refused k e → vector code p i ≡ refused k e
  unfolding vector
  vector_end f = rw f

  pub vector_cut : {x : ℤ} {e k d : ℕ} → component code p i ≡ got x e → component code p e ≡ refused k d → vector code p i ≡ refused k d
  unfolding vector
  vector_cut f g = rw (f, g)

  pub vector_sent : {x y : ℤ} {e d : ℕ} → component code p i ≡ got x e → component code p e ≡ got y d → vector code p i ≡ got (record { x = x; y = y }) d
  unfolding vector
  vector_sent f g = rw (f, g)

  -- "vectors within ±31"
  pub vector_small : {v : Vector} {e : ℕ} → vector code p i ≡ got v e → VectorInRange v
  unfolding vector
  vector_small {v} {e} r =
      let u = bind_got (component code) (λ x. bind (component code) (λ y. pure (record { x = x; y = y }))) p i r in
      let w = bind_got (component code) (λ y. pure (record { x = u.0; y = y })) p u.1 u.3 in
      go u.0 w.0 (component_small code p i u.2) (component_small code p u.1 w.2) w.3
    where
      go : (x y : ℤ) → nat_abs x ≤ 31 → nat_abs y ≤ 31 → {d : ℕ} → ◌≡◌ {A = Outcome Vector} (got (record { x = x; y = y }) d) (got v e) → VectorInRange v
      go x y hx hy r = let q : record { x = x; y = y } ≡ v = cc in subst VectorInRange q (record { x = hx; y = hy })

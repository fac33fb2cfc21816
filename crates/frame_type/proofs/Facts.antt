-- What the functions' proofs need. Assumes nothing.
use Prim.Native.Nat.{ℕ}
use mathlib.Core.Path.{◌≡◌, ◌∙◌}
use mathlib.Core.List.{List}
use mathlib.Core.Bool.{Bool, true, false}
use borrow.Author.Tests.{eq-eqb, ne_eqb}
use Rattle.bitstream.specs.Reading.{got, refused, field, judged}
use Rattle.bitstream.proofs.Fields.{judged_end, judged_fails, judged_passes}
use Rattle.bitstream.proofs.Laws.{bind_step, bind_refused}
use Rattle.frame_type.specs.Judged.{is_zero, allowed, frame_type, reserved}

pub may_intra : (references : Bool) (t : ℕ) → t ≡ 0 → allowed references t ≡ true
may_intra references t h = rw (eq-eqb t 0 h)

pub may_inter : (references : Bool) (t : ℕ) → (t ≡ 0 → ⊥) → allowed references t ≡ references
may_inter references t h = rw (ne_eqb t 0 h)

module _ (references : Bool) (p : List ℕ) (i : ℕ) where
  pub type_end : {k e : ℕ} → field 1 p i ≡ refused k e → frame_type references p i ≡ refused k e
  unfolding frame_type
  type_end f = bind_refused (judged 1 is_zero 10) (λ _. judged 1 (allowed references) 9) p i (judged_end 1 is_zero 10 p i f)

  pub type_marked : {b e : ℕ} → field 1 p i ≡ got b e → (b ≡ 0 → ⊥) → frame_type references p i ≡ refused 10 i
  unfolding frame_type
  type_marked {b} f h = bind_refused (judged 1 is_zero 10) (λ _. judged 1 (allowed references) 9) p i (judged_fails 1 is_zero 10 p i f (ne_eqb b 0 h))

  module _ {b e : ℕ} (f : field 1 p i ≡ got b e) (h : b ≡ 0) where
    type_then : frame_type references p i ≡ judged 1 (allowed references) 9 p e
    unfolding frame_type
    type_then = bind_step (judged 1 is_zero 10) (λ _. judged 1 (allowed references) 9) p i (judged_passes 1 is_zero 10 p i f (eq-eqb b 0 h))

    pub type_cut : {k d : ℕ} → field 1 p e ≡ refused k d → frame_type references p i ≡ refused k d
    type_cut g = type_then ∙ judged_end 1 (allowed references) 9 p e g

    pub type_got : {t d : ℕ} → field 1 p e ≡ got t d → allowed references t ≡ true → frame_type references p i ≡ got t d
    type_got g a = type_then ∙ judged_passes 1 (allowed references) 9 p e g a

    pub type_none : {t d : ℕ} → field 1 p e ≡ got t d → allowed references t ≡ false → frame_type references p i ≡ refused 9 e
    type_none g a = type_then ∙ judged_fails 1 (allowed references) 9 p e g a

module _ (t : ℕ) (p : List ℕ) (i : ℕ) where
  pub reserved_inter : (t ≡ 0 → ⊥) → reserved t p i ≡ got 0 i
  unfolding reserved
  reserved_inter h = rw (ne_eqb t 0 h)

  pub reserved_intra : t ≡ 0 → reserved t p i ≡ judged 3 is_zero 11 p i
  unfolding reserved
  reserved_intra h = rw (eq-eqb t 0 h)

-- What the answer of a judged field says. Assumes nothing.
use Prim.Native.Nat.{ℕ, ◌^◌, ◌<◌}
use mathlib.Core.Path.{◌≡◌, refl, sym, ap, ◌∙◌}
use mathlib.Core.List.{List}
use mathlib.Core.Bool.{Bool, true, false}
use Rattle.bitstream.specs.Reading.{Outcome, got, refused, field, judged}
use Rattle.bitstream.specs.Answer.{as_field}
use Rattle.bitstream.specs.declared.Field.{Field}
use Rattle.bitstream.proofs.Fields.{no_mix, field_lt, read_got, read_refused, judged_end, judged_fails, judged_passes}

-- the answer r of `read`, judged: a failing read; a value that fails the test; one that passes it
module _ (n : ℕ) (test : ℕ → Bool) (k : ℕ) (p : List ℕ) (i : ℕ) {r : Field} (read : r ≡ as_field (field n p i)) where
  pub answer_end : {j d : ℕ} → r ≡ Field.Refused j d → r ≡ as_field (judged n test k p i)
  answer_end g = g ∙ sym (ap as_field (judged_end n test k p i (read_refused _ read g)))

  pub answer_fails : {v e : ℕ} → r ≡ Field.Got v e → test v ≡ false → Field.Refused k i ≡ as_field (judged n test k p i)
  answer_fails g t = sym (ap as_field (judged_fails n test k p i (read_got _ read g) t))

  pub answer_passes : {v e : ℕ} → r ≡ Field.Got v e → test v ≡ true → Field.Got v e ≡ as_field (judged n test k p i)
  answer_passes g t = sym (ap as_field (judged_passes n test k p i (read_got _ read g) t))

-- a judged value that was got: it passes the test, and is within the field's width
pub judged_got : (n : ℕ) (test : ℕ → Bool) (k : ℕ) (p : List ℕ) (i : ℕ) {v e : ℕ} → judged n test k p i ≡ got v e → (test v ≡ true) × (v < 2 ^ n)
judged_got n test k p i {v} {e} h = go (field n p i) refl
  where
    tested : {w d : ℕ} → field n p i ≡ got w d → (b : Bool) → test w ≡ b → (test v ≡ true) × (v < 2 ^ n)
    tested {w} f true t = let s = sym (judged_passes n test k p i f t) ∙ h in let z : w ≡ v = cc in (rw z at t, rw z at (field_lt n p i f))
    tested f false t = no_mix (sym h ∙ judged_fails n test k p i f t)

    go : (o : Outcome ℕ) → field n p i ≡ o → (test v ≡ true) × (v < 2 ^ n)
    go (got w d) f = tested f (test w) refl
    go (refused j d) f = no_mix (sym h ∙ judged_end n test k p i f)

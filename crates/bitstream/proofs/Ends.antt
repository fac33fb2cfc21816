-- What an answer that says a place alone tells of the outcome, and of what was left. Assumes nothing.
use Prim.Native.Nat.{ℕ}
use native.Mathlib.Omega.{arith}
use mathlib.Core.Path.{◌≡◌, refl, sym, ◌∙◌}
use mathlib.Core.List.{List}
use Rattle.bitstream.specs.Reading.{Outcome, got, refused}
use Rattle.bitstream.specs.Answer.{as_end, IfGot, StoredAs, Stored}
use Rattle.bitstream.specs.declared.End.{End}
use Rattle.bitstream.specs.declared.End.TheVariants.{At, Refused}

-- ---- by the answer's arm
pub end_at : {A : Type 0} (o : Outcome A) {r : End} {e : ℕ} → r ≡ as_end o → r ≡ At e → (a : A) × (o ≡ got a e)
end_at (got a d) s h = (a, cc)
end_at (refused k d) s h = let z : ◌≡◌ {A = ℕ} 0 1 = cc in absurd (omega arith)

pub end_refused : {A : Type 0} (o : Outcome A) {r : End} {k e : ℕ} → r ≡ as_end o → r ≡ Refused k e → o ≡ refused k e
end_refused (got a d) s h = let z : ◌≡◌ {A = ℕ} 0 1 = cc in absurd (omega arith)
end_refused (refused j d) s h = cc

-- with what is left
pub left_at : {A : Type 0} (P : A → Type 0) (o : Outcome A) {r : End} {e : ℕ} → r ≡ as_end o → IfGot P o → r ≡ At e → (a : A) × (o ≡ got a e) × P a
left_at P (got a d) {r} {e} s t g = let z : At d ≡ At e = sym s ∙ g in (a, cc, t)
left_at P (refused j d) s t g = let z : ◌≡◌ {A = ℕ} 0 1 = cc in absurd (omega arith)

pub stored_as_at : {A : Type 0} (form : A → List ℕ) (o : Outcome A) (out : List ℕ) {r : End} {e : ℕ} → r ≡ as_end o → StoredAs form out o → r ≡ At e → (a : A) × (o ≡ got a e) × (out ≡ form a)
stored_as_at form o out s t g = left_at (λ a. out ≡ form a) o s t g

pub stored_at : (o : Outcome (List ℕ)) (out : List ℕ) {r : End} {e : ℕ} → r ≡ as_end o → Stored out o → r ≡ At e → o ≡ got out e
stored_at o out s t g = let u = stored_as_at (λ (l : List ℕ). l) o out s t g in rw u.2 u.1

-- ---- by the outcome
pub if_got : {A : Type 0} (P : A → Type 0) (o : Outcome A) {a : A} {e : ℕ} → IfGot P o → o ≡ got a e → P a
if_got P o {a} {e} t h = rw h at t

pub on_refused : {A : Type 0} (P : A → Type 0) (o : Outcome A) {k e : ℕ} → o ≡ refused k e → (Refused k e ≡ as_end o) × IfGot P o
on_refused P o h = rw h (refl, tt)

pub on_got : {A : Type 0} (P : A → Type 0) (o : Outcome A) {a : A} {e : ℕ} → o ≡ got a e → P a → (At e ≡ as_end o) × IfGot P o
on_got P o h t = rw h (refl, t)

-- a list in a slice
module _ (out : List ℕ) (o : Outcome (List ℕ)) where
  pub on_refusal : {k e : ℕ} → o ≡ refused k e → (Refused k e ≡ as_end o) × Stored out o
  on_refusal h = on_refused (λ (l : List ℕ). out ≡ l) o h

  pub on_list : {e : ℕ} → o ≡ got out e → (At e ≡ as_end o) × Stored out o
  on_list h = on_got (λ (l : List ℕ). out ≡ l) o h refl

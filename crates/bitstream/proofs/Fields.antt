-- What the outcome of a field says, and the answer of `read`. Assumes nothing.
use Prim.Native.Nat.{ℕ, ◌+◌, ◌^◌, ◌≤◌, ◌<◌}
use native.Mathlib.Omega.{arith}
use mathlib.Core.Path.{◌≡◌, refl, sym, ap, ap₂, ◌∙◌}
use mathlib.Core.List.{List}
use mathlib.Core.Bool.{Bool, true, false}
use lib.Dec.{leb}
use borrow.Author.Tests.{lt-leb, le-leb, leb-true, leb-false}
use Rattle.bitstream.specs.Bits.{bits, number}
use Rattle.bitstream.specs.Reading.{Outcome, got, refused, after, choose, field, two_fields, judged}
use Rattle.bitstream.specs.Answer.{as_field, said_place, two_of, as_two}
use Rattle.bitstream.specs.declared.Field.{Field}
use Rattle.bitstream.specs.declared.Field.TheVariants.{Got, Refused}
use Rattle.bitstream.specs.declared.Two.{Two}
use Rattle.bitstream.specs.declared.Two.TheVariants as two
use Rattle.bitstream.proofs.Numbers.{number_lt}

-- no outcome is both
pub no_mix : {X A : Type 0} {a : A} {d k e : ℕ} → ◌≡◌ {A = Outcome A} (got a d) (refused k e) → X
no_mix h = let z : ◌≡◌ {A = ℕ} 0 1 = cc in absurd (omega arith)

-- a field that is within the packet, and one that is not
pub field_got : (n : ℕ) (p : List ℕ) (i : ℕ) → i + n ≤ bits p → field n p i ≡ got (number p i n) (i + n)
unfolding field
field_got n p i h = rw (le-leb _ _ h)

pub field_end : (n : ℕ) (p : List ℕ) (i : ℕ) → bits p < i + n → field n p i ≡ refused 4 i
unfolding field
field_end n p i h = rw (lt-leb _ _ h)

-- a field's two ways
pub field_cases : {X : Type 0} (n : ℕ) (p : List ℕ) (i : ℕ)
    → (i + n ≤ bits p → field n p i ≡ got (number p i n) (i + n) → X) → (bits p < i + n → field n p i ≡ refused 4 i → X) → X
field_cases {X} n p i f g = go (leb (i + n) (bits p)) refl
  where
    go : (t : Bool) → leb (i + n) (bits p) ≡ t → X
    go true t = let h : i + n ≤ bits p = leb-true _ _ t in f h (field_got n p i h)
    go false t = let h : bits p < i + n = leb-false _ _ t in g h (field_end n p i h)

-- a value that was got is the number there; it ends where the field ends, within the packet
pub field_value : (n : ℕ) (p : List ℕ) (i : ℕ) {v e : ℕ} → field n p i ≡ got v e → (v ≡ number p i n) × (e ≡ i + n) × (i + n ≤ bits p)
field_value n p i r = field_cases n p i (λ h s. let t = sym r ∙ s in (cc, cc, h)) (λ h s. no_mix (sym r ∙ s))

pub field_lt : (n : ℕ) (p : List ℕ) (i : ℕ) {v e : ℕ} → field n p i ≡ got v e → v < 2 ^ n
field_lt n p i h = rw (field_value n p i h).0 (number_lt p i n)

-- what an answer says of the outcome o, by its arm
pub read_got : (o : Outcome ℕ) {r : Field} {v e : ℕ} → r ≡ as_field o → r ≡ Got v e → o ≡ got v e
read_got (got a d) s g = cc
read_got (refused k d) s g = let z : ◌≡◌ {A = ℕ} 0 1 = cc in absurd (omega arith)

pub read_refused : (o : Outcome ℕ) {r : Field} {k e : ℕ} → r ≡ as_field o → r ≡ Refused k e → o ≡ refused k e
read_refused (got a d) s g = let z : ◌≡◌ {A = ℕ} 0 1 = cc in absurd (omega arith)
read_refused (refused k d) s g = cc

-- the same of two fields
pub two_got : (o : Outcome (ℕ × ℕ)) {r : Two} {a b e : ℕ} → r ≡ as_two o → r ≡ two.Got a b e → o ≡ got (a, b) e
two_got (got v d) {r} {a} {b} {e} s g =
    let x : v.0 ≡ a = cc in
    let y : v.1 ≡ b = cc in
    let z : d ≡ e = cc in
    λ i. got (x i, y i) (z i)
two_got (refused k d) s g = let z : ◌≡◌ {A = ℕ} 0 1 = cc in absurd (omega arith)

pub two_refused : (o : Outcome (ℕ × ℕ)) {r : Two} {k e : ℕ} → r ≡ as_two o → r ≡ two.Refused k e → o ≡ refused k e
two_refused (got v d) s g = let z : ◌≡◌ {A = ℕ} 0 1 = cc in absurd (omega arith)
two_refused (refused k d) s g = cc

-- two fields, by the answers of both, the second where the first ends
pub two_is : (n m : ℕ) (p : List ℕ) (i : ℕ) {s t : Field} {j : ℕ} → s ≡ as_field (field n p i) → j ≡ said_place s → t ≡ as_field (field m p j) → two_of s t ≡ as_two (two_fields n m p i)
two_is n m p i a b c = ap₂ two_of a (c ∙ ap (λ (k : ℕ). as_field (field m p k)) (b ∙ ap said_place a)) ∙ go (field n p i)
  where
    last : (a e : ℕ) (o : Outcome ℕ) → two_of (Got a e) (as_field o) ≡ as_two (after o (λ b d. got (a, b) d))
    last a e (got b d) = refl
    last a e (refused k d) = refl

    go : (o : Outcome ℕ) → two_of (as_field o) (as_field (field m p (said_place (as_field o)))) ≡ as_two (after o (λ a e. after (field m p e) (λ b d. got (a, b) d)))
    go (refused k e) = refl
    go (got a e) = last a e (field m p e)

-- a judged field: a failing read; a value that fails the test; one that passes it
module _ (n : ℕ) (test : ℕ → Bool) (k : ℕ) (p : List ℕ) (i : ℕ) where
  pub judged_end : {j d : ℕ} → field n p i ≡ refused j d → judged n test k p i ≡ refused j d
  unfolding judged
  judged_end f = rw f

  pub judged_fails : {v e : ℕ} → field n p i ≡ got v e → test v ≡ false → judged n test k p i ≡ refused k i
  unfolding judged
  judged_fails f t = rw (f, t)

  pub judged_passes : {v e : ℕ} → field n p i ≡ got v e → test v ≡ true → judged n test k p i ≡ got v e
  unfolding judged
  judged_passes f t = rw (f, t)

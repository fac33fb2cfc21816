-- What the code answers, as outcomes of the reading algebra, and what it leaves in slices.
use Rattle.std.specs.Prelude.{ℕ, ◌≡◌, List, take}
use Rattle.bitstream.specs.Bits.{longest}
use Rattle.bitstream.specs.Reading.{Outcome, got, refused}
use Rattle.bitstream.specs.declared.Field.{Field}
use Rattle.bitstream.specs.declared.Field.TheVariants.{Got, Refused}
use Rattle.bitstream.specs.declared.End.{End}
use Rattle.bitstream.specs.declared.End.TheVariants as end
use Rattle.bitstream.specs.declared.Two.{Two}
use Rattle.bitstream.specs.declared.Two.TheVariants as two

-- a field's outcome
abbrev pub as_field : Outcome ℕ → Field
as_field (got v e) = Got v e
as_field (refused k e) = Refused k e

-- an outcome of which only the place behind is handed on
abbrev pub as_end : {A : Type 0} → Outcome A → End
as_end (got a e) = end.At e
as_end (refused k e) = end.Refused k e

-- what a reader leaves is said of the value that it got; after a refusal it is open
abbrev pub IfGot : {A : Type 0} → (A → Type 0) → Outcome A → Type 0
IfGot P (got a e) = P a
IfGot P (refused k e) = Unit {0}

-- the slice holds the value in some form; the list itself
abbrev pub StoredAs : {A : Type 0} → (A → List ℕ) → List ℕ → Outcome A → Type 0
StoredAs form out o = IfGot (λ a. out ≡ form a) o

abbrev pub Stored : List ℕ → Outcome (List ℕ) → Type 0
Stored out o = StoredAs (λ (l : List ℕ). l) out o

-- the place that a field's answer says
abbrev pub said_place : Field → ℕ
said_place (Got v e) = e
said_place (Refused k e) = e

-- the outcome of two fields
abbrev pub as_two : Outcome (ℕ × ℕ) → Two
as_two (got v e) = two.Got v.0 v.1 e
as_two (refused k e) = two.Refused k e

-- two answers as one: the first refusal, or both values and the place behind the second
abbrev pub two_of : Field → Field → Two
two_of (Refused k e) f = two.Refused k e
two_of (Got a e) (Refused k d) = two.Refused k d
two_of (Got a e) (Got b d) = two.Got a b d

-- the part of a packet that is handed on to readers: law `readable-same` of proofs/Spends says that no answer depends on the rest
abbrev pub readable : List ℕ → List ℕ
readable p = take longest p

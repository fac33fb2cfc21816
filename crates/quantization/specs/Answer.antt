-- What the readers answer and leave in the slices that they are lent.
use Rattle.std.specs.Prelude.{ℕ, ◌*◌, ◌-◌, ◌≡◌, List, [], length, replicate, ◌++◌, ◌∷◌}
use Rattle.bitstream.specs.Reading.{Outcome, got, refused}
use Rattle.bitstream.specs.declared.Field.{Field}
use Rattle.bitstream.specs.declared.Field.TheVariants.{Got, Refused as NoField}
use Rattle.quantization.specs.Parameters.{Ranges, Quantization, set_from}
use Rattle.quantization.specs.Layout.{over, laid}
use Rattle.bitstream.specs.declared.End.{End}
use Rattle.bitstream.specs.declared.End.TheVariants.{At, Refused}
use Rattle.bitstream.specs.Answer.{as_end, IfGot}
use Rattle.quantization.specs.declared.LoadedParameters.{LoadedParameters}
use Rattle.quantization.specs.declared.Parameters.{Parameters}
use Rattle.quantization.specs.declared.Parameters.TheVariants.{Read, Refused as NotRead}

-- the place that a field's answer says
abbrev pub end_of : Field → End
end_of (Got v e) = At e
end_of (NoField k e) = Refused k e

-- the slice is the list that was read; after a refusal it may be anything
abbrev pub Filled : Outcome (List ℕ) → List ℕ → Type 0
Filled o new = IfGot (λ l. new ≡ l) o

-- the set that was read stands at the front of two slices; after a refusal they may be anything
abbrev pub SetFilled : Outcome Ranges → (sizes sizes' indices indices' : List ℕ) → Type 0
SetFilled o sizes sizes' indices indices' = IfGot (λ r. (sizes' ≡ over r.sizes sizes) × (indices' ≡ over r.indices indices)) o

-- the sets so far, of six, lie in two slices of 6 * 64 elements, zeros behind them
pub record Held (done : List Ranges) (sizes indices : List ℕ) : Type 0 where
  pub sizes_are : sizes ≡ laid (λ r. r.sizes) done ++ replicate (384 - length done * 64) 0
  pub indices_are : indices ≡ laid (λ r. r.indices) done ++ replicate (384 - length done * 64) 0

-- a set more, if it was read
abbrev pub HeldMore : List Ranges → Outcome Ranges → (sizes indices : List ℕ) → Type 0
HeldMore done o sizes indices = IfGot (λ r. Held (done ++ r ∷ []) sizes indices) o

-- the answer to one set more, and what it leaves, whatever the k sets before it are
abbrev pub SetAnswer : (n : ℕ) (p : List ℕ) (at k back : ℕ) (sizes sizes' indices indices' : List ℕ) → End → Type 0
SetAnswer n p at k back sizes sizes' indices indices' r =
    (done : List Ranges) → length done ≡ k → Held done sizes indices → (r ≡ as_end (set_from n done back p at)) × HeldMore done (set_from n done back p at) sizes' indices'

-- the sets lie in two slices, if they were read
abbrev pub SetsHeld : Outcome (List Ranges) → (sizes indices : List ℕ) → Type 0
SetsHeld o sizes indices = IfGot (λ sets. (sizes ≡ laid (λ r. r.sizes) sets) × (indices ≡ laid (λ r. r.indices) sets)) o

-- the place of the first base matrix, and that behind the parameters
abbrev pub as_parameters : Outcome Quantization → Parameters
as_parameters (got q e) = Read q.matrices_at e
as_parameters (refused k e) = NotRead k e

-- parameters as the code has them: sets one after the other, 64 elements each
unfoldable pub loaded_parameters : Quantization → LoadedParameters
loaded_parameters q = record {
  place = q.matrices_at;
  ac_scale = q.ac_scale;
  dc_scale = q.dc_scale;
  sizes = laid (λ r. r.sizes) q.sets;
  indices = laid (λ r. r.indices) q.sets;
}

-- the parameters that were read lie in four slices; after a refusal they may be anything
abbrev pub Loaded : Outcome Quantization → (ac dc sizes indices : List ℕ) → Type 0
Loaded o ac dc sizes indices = IfGot (λ q. record { place = q.matrices_at; ac_scale = ac; dc_scale = dc; sizes = sizes; indices = indices } ≡ loaded_parameters q) o

-- The state between macro blocks, where work memory holds one packed number to a block.
use Rattle.std.specs.Prelude.{ℕ, ◌≡◌, List}
use Rattle.bitstream.specs.Reading.{Outcome, got, refused}
use Rattle.bitstream.specs.Answer.{IfGot}
use Rattle.block_record.specs.declared.Vector.{Vector}
use Rattle.block_record.specs.Memory.{AllPacked, records_of}
use Rattle.vectors.specs.declared.Step.{Step}
use Rattle.vectors.specs.declared.Step.TheVariants.{Next, Refused}
use Rattle.vectors.specs.Vectors.{VectorState}

-- the records that the numbers stand for, with the kept vectors
abbrev pub state_of : List ℕ → Vector → Vector → VectorState
state_of ns last last2 = record { records = records_of ns; last = last; last2 = last2 }

-- what stands in the slice after an outcome; after a refusal that is open
abbrev pub StoredState : List ℕ → Outcome VectorState → Type 0
StoredState out o = IfGot (λ s. (records_of out ≡ s.records) × AllPacked out) o

-- what the code answers behind a macro block
abbrev pub as_step : Outcome VectorState → Step
as_step (got s e) = Next s.last s.last2 e
as_step (refused k e) = Refused k e

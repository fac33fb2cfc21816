-- What a step leaves in the slice of packed records; after a refusal that is open.
use Rattle.std.specs.Prelude.{ℕ, ◌≡◌, List}
use Rattle.bitstream.specs.Reading.{Outcome}
use Rattle.bitstream.specs.Answer.{IfGot}
use Rattle.block_record.specs.declared.BlockRecord.{BlockRecord}
use Rattle.block_record.specs.Memory.{AllPacked, records_of}

-- the records are those read, and still packed
abbrev pub KeptRecords : List ℕ → Outcome (List BlockRecord) → Type 0
KeptRecords out o = IfGot (λ rs. (records_of out ≡ rs) × AllPacked out) o

-- Records as work memory holds them: one packed number to a block.
use Rattle.std.specs.Prelude.{ℕ, ◌≡◌, List, [], ◌∷◌, map}
use Rattle.block_record.specs.declared.BlockRecord.{BlockRecord}
use Rattle.block_record.specs.Record.{InRange}
use Rattle.block_record.specs.Packed.{packed, unpacked}

-- the number of a record in its range
pub record IsPacked (n : ℕ) : Type 0 where
  pub in_range : InRange (unpacked n)
  pub same : packed (unpacked n) ≡ n

-- every number is that of a record; the records of all
unfoldable pub AllPacked : List ℕ → Type 0
AllPacked [] = Unit {0}
AllPacked (n ∷ ns) = IsPacked n × AllPacked ns

abbrev pub records_of : List ℕ → List BlockRecord
records_of ns = map unpacked ns

-- `token_reader::entry_in` meets its contract. Assumes nothing.
use native.Mathlib.Omega.{arith}
use Rattle.token.proofs.Rows.{values_length, value_small}
use Rattle.token_reader.proofs.entry_in.Goals as goal

pub walk-requires : goal.walk-requires
walk-requires c = (c.requires.1, rw c.requires.3 (record { size = values_length; small = value_small }), omega (arith, c.requires.0))

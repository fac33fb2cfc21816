-- `tokens::fill_lookup` meets its contract. Assumes nothing.
use Rattle.token.proofs.Rows.{values_length, value_small}
use Rattle.token.proofs.Complete.{complete_length, complete_small}
use Rattle.tokens.proofs.fill_lookup.Goals as goal

pub fill_by-requires : goal.fill_by-requires
fill_by-requires c = (c.requires.0, rw c.all_values-values.ensures (record { size = values_length; small = value_small }), rw c.all_complete-complete.ensures (record { size = complete_length; small = complete_small }), c.requires.1)

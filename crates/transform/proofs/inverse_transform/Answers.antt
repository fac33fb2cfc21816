-- `transform::inverse_transform` meets its contract. Assumes nothing.
use mathlib.Core.Path.{ap, ◌∙◌}
use Rattle.transform.specs.Block.{columns, inverse}
use Rattle.transform.proofs.inverse_transform.Goals as goal

pub returns : goal.returns
unfolding inverse
returns c = c.transform_columns.ensures ∙ ap (columns 8) c.transform_rows.ensures

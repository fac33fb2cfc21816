-- `vectors::is_coded_in` meets its contract. Assumes nothing.
use mathlib.Core.Path.{◌∙◌}
use Rattle.vectors.proofs.Records.{coded_at}
use Rattle.vectors.proofs.is_coded_in.Goals as goal

pub returns : goal.returns
returns c = c.is_coded.ensures ∙ coded_at c.args.format c.args.w c.args.h c.args.q c.args.records.now c.args.k c.number_in-i.result c.number_in-i.ensures.0

use Rattle.std.proofs.Common.{refl, ap, ◌∙◌, add-one}
use Rattle.lines.specs.Places.{transform_line}
use Rattle.transform.specs.Block.{columns}
use Rattle.transform.proofs.transform_columns.Goals as goal

pub loop-i-init : goal.loop-i-init
unfolding columns
loop-i-init c = refl

pub loop-i-preserved : goal.loop-i-preserved
unfolding columns
loop-i-preserved c = rw add-one (c.transform_line.ensures ∙ ap (λ s. transform_line s c.loop-i.i 8) c.loop-i.invariant)

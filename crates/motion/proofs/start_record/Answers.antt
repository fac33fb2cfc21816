-- `motion::start_record` meets its contract. Assumes nothing.
use mathlib.Core.Path.{sym, ap, ◌∙◌}
use Rattle.block_record.specs.declared.Vector.{Vector}
use Rattle.block_record.specs.declared.Prediction.TheVariants.{Previous}
use Rattle.block_record.specs.Record.{with_prediction}
use Rattle.block_record.specs.Packed.{packed, unpacked}
use Rattle.motion.proofs.Kept.{started_coded, started_not}
use Rattle.motion.proofs.start_record.Goals as goal

pub returns-then-is_coded : goal.returns-then-is_coded
returns-then-is_coded c = c.with_prediction.ensures
    ∙ ap (λ (v : Vector). packed (with_prediction (Previous v) (unpacked c.args.n))) c.zero_vector.ensures
    ∙ started_coded c.args.n (sym c.is_coded.ensures ∙ c.if-is_coded.true)

pub returns : goal.returns
returns c = started_not c.args.n c.requires (sym c.is_coded.ensures ∙ c.if-is_coded.false)

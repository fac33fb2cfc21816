-- `motion_reader::prediction_of` meets its contract. Assumes nothing.
use mathlib.Core.Path.{sym, ap, ◌∙◌}
use Rattle.block_record.specs.declared.Prediction.TheVariants.{Previous}
use Rattle.motion.specs.declared.Motion.{Motion}
use Rattle.motion_reader.specs.Motion.{prediction_of}
use Rattle.motion_reader.proofs.prediction_of.Goals as goal

pub returns-in-One : goal.returns-in-One
unfolding prediction_of
returns-in-One c = sym (ap (λ (m : Motion). prediction_of c.args.format m c.args.k) c.in-One.is)

pub returns-in-Four : goal.returns-in-Four
unfolding prediction_of
returns-in-Four c = ap Previous c.four_vector.ensures ∙ sym (ap (λ (m : Motion). prediction_of c.args.format m c.args.k) c.in-Four.is)

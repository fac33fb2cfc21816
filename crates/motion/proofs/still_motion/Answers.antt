-- `motion::still_motion` meets its contract. Assumes nothing.
use mathlib.Core.Path.{ap, ◌∙◌}
use Rattle.block_record.specs.declared.Vector.{Vector}
use Rattle.block_record.specs.declared.Prediction.TheVariants.{Previous, Golden}
use Rattle.motion.specs.declared.Motion.TheVariants.{One}
use Rattle.motion.specs.Kept.{behind}
use Rattle.motion.proofs.Kept.{still_intra, still_last, still_last2, still_golden, still_nomv}
use Rattle.motion.proofs.still_motion.Goals as goal

pub returns-then-mode-eq1 : goal.returns-then-mode-eq1
returns-then-mode-eq1 c = c.one_prediction.ensures ∙ still_intra c.args.mode c.args.last c.args.last2 c.if-mode-eq1.true

pub returns-then-mode-eq3 : goal.returns-then-mode-eq3
returns-then-mode-eq3 c = c.one_prediction-then-mode-eq3.ensures ∙ still_last c.args.mode c.args.last c.args.last2 c.if-mode-eq1.false c.if-mode-eq3.true

pub returns-then-mode-eq4 : goal.returns-then-mode-eq4
returns-then-mode-eq4 c = c.one_prediction-then-mode-eq4.ensures ∙ still_last2 c.args.mode c.args.last c.args.last2 c.if-mode-eq1.false c.if-mode-eq3.false c.if-mode-eq4.true

pub returns-then-mode-eq5 : goal.returns-then-mode-eq5
returns-then-mode-eq5 c = c.one_prediction-then-mode-eq5.ensures ∙ ap (λ (v : Vector). behind (One (Golden v)) c.args.last c.args.last2) c.zero_vector-zero.ensures ∙ still_golden c.args.mode c.args.last c.args.last2 c.if-mode-eq1.false c.if-mode-eq3.false c.if-mode-eq4.false c.if-mode-eq5.true

pub returns : goal.returns
returns c = c.one_prediction-2.ensures ∙ ap (λ (v : Vector). behind (One (Previous v)) c.args.last c.args.last2) c.zero_vector-zero.ensures ∙ still_nomv c.args.mode c.args.last c.args.last2 c.if-mode-eq1.false c.if-mode-eq3.false c.if-mode-eq4.false c.if-mode-eq5.false

-- `motion_reader::read_motion` meets its contract. Assumes nothing.
use mathlib.Core.Path.{sym, ap, ◌∙◌}
use Rattle.motion.specs.declared.Moved.{Moved}
use Rattle.motion_reader.specs.declared.MovedRead.TheVariants as moved-read
use Rattle.motion_reader.specs.Motion.{as_moved}
use Rattle.motion_reader.proofs.Motions.{motion_mv, motion_golden, motion_four, motion_still}
use Rattle.motion_reader.proofs.read_motion.Goals as goal

pub returns-then-mode-eq2 : goal.returns-then-mode-eq2
returns-then-mode-eq2 c = c.read_moving.ensures ∙ sym (ap as_moved (motion_mv c.args.code c.args.mode c.args.a c.args.b c.args.c c.args.d c.args.last c.args.last2 c.args.packet.now c.args.at c.if-mode-eq2.true))

pub returns-then-mode-eq6 : goal.returns-then-mode-eq6
returns-then-mode-eq6 c = c.read_moving_golden.ensures ∙ sym (ap as_moved (motion_golden c.args.code c.args.mode c.args.a c.args.b c.args.c c.args.d c.args.last c.args.last2 c.args.packet.now c.args.at c.if-mode-eq2.false c.if-mode-eq6.true))

pub returns-then-mode-eq7 : goal.returns-then-mode-eq7
returns-then-mode-eq7 c = c.read_moving_four.ensures ∙ sym (ap as_moved (motion_four c.args.code c.args.mode c.args.a c.args.b c.args.c c.args.d c.args.last c.args.last2 c.args.packet.now c.args.at c.if-mode-eq2.false c.if-mode-eq6.false c.if-mode-eq7.true))

pub returns : goal.returns
returns c = ap (λ (m : Moved). moved-read.Got m c.args.at) c.still_motion.ensures ∙ sym (ap as_moved (motion_still c.args.code c.args.mode c.args.a c.args.b c.args.c c.args.d c.args.last c.args.last2 c.args.packet.now c.args.at c.if-mode-eq2.false c.if-mode-eq6.false c.if-mode-eq7.false))

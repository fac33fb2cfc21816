-- `motion_reader::read_moving_golden` meets its contract. Assumes nothing.
use mathlib.Core.Path.{sym, ap, ◌∙◌}
use Rattle.motion.specs.declared.Moved.{Moved}
use Rattle.motion_reader.specs.declared.MovedRead.TheVariants as moved-read
use Rattle.motion_reader.specs.Component.{vector}
use Rattle.motion_reader.specs.Motion.{as_moved}
use Rattle.motion_reader.proofs.Components.{vector_got, vector_refused}
use Rattle.motion_reader.proofs.Motions.{golden_end, golden_sent}
use Rattle.motion_reader.proofs.read_moving_golden.Goals as goal

pub returns-in-Refused : goal.returns-in-Refused
returns-in-Refused c = sym (ap as_moved (golden_end c.args.code c.args.packet.now c.args.at c.args.last c.args.last2 (vector_refused (vector c.args.code c.args.packet.now c.args.at) c.read_vector-one.ensures c.in-Refused.is)))

pub returns-in-Got : goal.returns-in-Got
returns-in-Got c = ap (λ (m : Moved). moved-read.Got m c.in-Got.next) c.one_prediction.ensures ∙ sym (ap as_moved (golden_sent c.args.code c.args.packet.now c.args.at c.args.last c.args.last2 (vector_got (vector c.args.code c.args.packet.now c.args.at) c.read_vector-one.ensures c.in-Got.is)))

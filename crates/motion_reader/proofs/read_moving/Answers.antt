-- `motion_reader::read_moving` meets its contract. Assumes nothing.
use mathlib.Core.Path.{sym, ap, ◌∙◌}
use Rattle.motion.specs.declared.Moved.{Moved}
use Rattle.motion_reader.specs.declared.MovedRead.TheVariants as moved-read
use Rattle.motion_reader.specs.Component.{vector}
use Rattle.motion_reader.specs.Motion.{as_moved}
use Rattle.motion_reader.proofs.Components.{vector_got, vector_refused}
use Rattle.motion_reader.proofs.Motions.{moving_end, moving_sent}
use Rattle.motion_reader.proofs.read_moving.Goals as goal

pub returns-in-Refused : goal.returns-in-Refused
returns-in-Refused c = sym (ap as_moved (moving_end c.args.code c.args.packet.now c.args.at c.args.last (vector_refused (vector c.args.code c.args.packet.now c.args.at) c.read_vector-one.ensures c.in-Refused.is)))

pub returns-in-Got : goal.returns-in-Got
returns-in-Got c = ap (λ (m : Moved). moved-read.Got m c.in-Got.next) c.one_prediction.ensures ∙ sym (ap as_moved (moving_sent c.args.code c.args.packet.now c.args.at c.args.last (vector_got (vector c.args.code c.args.packet.now c.args.at) c.read_vector-one.ensures c.in-Got.is)))

-- `motion_reader::read_if_coded` meets its contract. Assumes nothing.
use mathlib.Core.Path.{sym, ap, ◌∙◌}
use Rattle.block_record.specs.declared.Vector.{Vector}
use Rattle.motion_reader.specs.declared.VectorRead.TheVariants as vector-read
use Rattle.motion_reader.specs.Component.{as_vector}
use Rattle.motion_reader.proofs.Motions.{coded_sent, coded_none}
use Rattle.motion_reader.proofs.read_if_coded.Goals as goal

pub returns-then-coded : goal.returns-then-coded
returns-then-coded c = c.read_vector.ensures ∙ sym (ap as_vector (coded_sent c.args.code c.args.packet.now c.args.at c.args.coded c.if-coded.true))

pub returns : goal.returns
returns c = ap (λ (v : Vector). vector-read.Got v c.args.at) c.zero_vector.ensures ∙ sym (ap as_vector (coded_none c.args.code c.args.packet.now c.args.at c.args.coded c.if-coded.false))

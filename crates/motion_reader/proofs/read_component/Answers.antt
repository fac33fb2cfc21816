-- `motion_reader::read_component` meets its contract. Assumes nothing.
use mathlib.Core.Path.{sym, ap, ◌∙◌}
use Rattle.bitstream.proofs.Laws.{whole_got, whole_refused}
use Rattle.motion_reader.specs.Component.{by_code, component, as_component}
use Rattle.motion_reader.proofs.Components.{component_got, component_refused}
use Rattle.motion_reader.proofs.read_component.Goals as goal

pub returns-in-Refused : goal.returns-in-Refused
unfolding component
returns-in-Refused c = sym (ap as_component (whole_refused (by_code c.args.code) c.args.packet.now c.args.at (component_refused (by_code c.args.code c.args.packet.now c.args.at) c.read_by_code-one.ensures c.in-Refused.is)))

pub returns-in-Got : goal.returns-in-Got
unfolding component
returns-in-Got c = c.in-Got.is ∙ sym (ap as_component (whole_got (by_code c.args.code) c.args.packet.now c.args.at (component_got (by_code c.args.code c.args.packet.now c.args.at) c.read_by_code-one.ensures c.in-Got.is)))

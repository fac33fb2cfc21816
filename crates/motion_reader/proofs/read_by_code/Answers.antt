-- `motion_reader::read_by_code` meets its contract. Assumes nothing.
use mathlib.Core.Path.{sym, ap, ◌∙◌}
use Rattle.motion_reader.specs.Component.{as_component}
use Rattle.motion_reader.proofs.Components.{code_variable, code_five}
use Rattle.motion_reader.proofs.read_by_code.Goals as goal

pub returns-then-code-eq0 : goal.returns-then-code-eq0
returns-then-code-eq0 c = c.read_variable.ensures ∙ sym (ap as_component (code_variable c.args.code c.args.packet.now c.args.at c.if-code-eq0.true))

pub returns : goal.returns
returns c = c.read_added.ensures ∙ sym (ap as_component (code_five c.args.code c.args.packet.now c.args.at c.if-code-eq0.false))

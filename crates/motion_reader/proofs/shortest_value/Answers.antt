-- `motion_reader::shortest_value` meets its contract. Assumes nothing.
use mathlib.Core.Path.{◌∙◌}
use mir.Syntax.{w32}
use Rattle.numeric.proofs.Known.{k_lit, back}
use Rattle.motion_reader.proofs.Components.{shortest_zero, shortest_one}
use Rattle.motion_reader.proofs.shortest_value.Goals as goal

pub returns-then-t-eq0 : goal.returns-then-t-eq0
returns-then-t-eq0 c = (k_lit {w = w32} 0 tt).reads ∙ shortest_zero c.args.t c.if-t-eq0.true

pub returns : goal.returns
returns c = back w32 c.signed_value.result c.signed_value.type_inv ∙ c.signed_value.ensures ∙ shortest_one c.args.t c.if-t-eq0.false

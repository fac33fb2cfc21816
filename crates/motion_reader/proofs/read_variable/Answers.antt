-- `motion_reader::read_variable` meets its contract. Assumes nothing.
use native.Mathlib.Omega.{arith}
use mathlib.Core.Path.{◌≡◌, sym, ap, ◌∙◌}
use mir.Syntax.{w32}
use lib.IntN.{ℤ}
use Rattle.bitstream.specs.Reading.{got, field}
use Rattle.bitstream.proofs.Fields.{read_got, read_refused, field_lt}
use Rattle.numeric.proofs.Known.{back}
use Rattle.motion_reader.specs.Component.{width, least, as_component}
use Rattle.motion_reader.proofs.Components.{variable_end, variable_short, variable_long}
use Rattle.motion_reader.specs.declared.ComponentRead.TheVariants as component-read
use Rattle.motion_reader.proofs.read_variable.Goals as goal

pub returns-then-t-lt3 : goal.returns-then-t-lt3
returns-then-t-lt3 c =
    let prefix-got : field 3 c.args.packet.now c.args.at ≡ got c.in-Got.t c.in-Got.next =
    read_got (field 3 c.args.packet.now c.args.at) c.read-prefix.ensures c.in-Got.is in
    ap (λ (z : ℤ). component-read.Got z c.in-Got.next) (back w32 c.shortest_value.result c.shortest_value.type_inv ∙ c.shortest_value.ensures) ∙ sym (ap as_component (variable_short c.args.packet.now c.args.at (prefix-got) c.if-t-lt3.true))

pub returns-in-Refused : goal.returns-in-Refused
returns-in-Refused c = sym (ap as_component (variable_end c.args.packet.now c.args.at (read_refused (field 3 c.args.packet.now c.args.at) c.read-prefix.ensures c.in-Refused.is)))

pub returns-else-t-lt3 : goal.returns-else-t-lt3
unfolding least width
returns-else-t-lt3 c =
    let prefix-got : field 3 c.args.packet.now c.args.at ≡ got c.in-Got.t c.in-Got.next =
    read_got (field 3 c.args.packet.now c.args.at) c.read-prefix.ensures c.in-Got.is in
    c.read_added.ensures ∙ sym (ap as_component (variable_long c.args.packet.now c.args.at (prefix-got) c.if-t-lt3.false))

pub bounds-line : goal.bounds-line
bounds-line c =
    let prefix-got : field 3 c.args.packet.now c.args.at ≡ got c.in-Got.t c.in-Got.next =
    read_got (field 3 c.args.packet.now c.args.at) c.read-prefix.ensures c.in-Got.is in
    omega (arith, field_lt 3 c.args.packet.now c.args.at prefix-got)

pub bounds-line-in-Got : goal.bounds-line-in-Got
bounds-line-in-Got c =
    let prefix-got : field 3 c.args.packet.now c.args.at ≡ got c.in-Got.t c.in-Got.next =
    read_got (field 3 c.args.packet.now c.args.at) c.read-prefix.ensures c.in-Got.is in
    omega (arith, field_lt 3 c.args.packet.now c.args.at prefix-got)

-- `motion_reader::read_added` meets its contract. Assumes nothing.
use Prim.Native.Nat.{◌+◌, ◌≤◌}
use native.Mathlib.Omega.{arith}
use mathlib.Core.Path.{◌≡◌, sym, ap, ◌∙◌}
use mir.Syntax.{w32}
use lib.IntN.{ℤ}
use Rattle.bitstream.specs.Reading.{got, field}
use Rattle.bitstream.proofs.Fields.{read_got, read_refused, field_lt}
use Rattle.numeric.proofs.Known.{back}
use Rattle.motion_reader.specs.Component.{as_component}
use Rattle.motion_reader.proofs.Components.{added_end, added_cut, added_got}
use Rattle.motion_reader.specs.declared.ComponentRead.TheVariants as component-read
use borrow.Author.Rules.{rules}
use Rattle.motion_reader.proofs.read_added.Goals as goal

pub overflow_add-base : goal.overflow_add-base
overflow_add-base c =
    let more-got : field c.args.bits c.args.packet.now c.args.at ≡ got c.in-Got.v c.in-Got.next =
    read_got (field c.args.bits c.args.packet.now c.args.at) c.read-more.ensures c.in-Got.is in
    let small : c.args.base + c.in-Got.v ≤ 31 =
    omega (arith, field_lt c.args.bits c.args.packet.now c.args.at (more-got), c.requires.2) in
    let m = small in search rules

pub signed_value-requires : goal.signed_value-requires
signed_value-requires c =
    let more-got : field c.args.bits c.args.packet.now c.args.at ≡ got c.in-Got.v c.in-Got.next =
    read_got (field c.args.bits c.args.packet.now c.args.at) c.read-more.ensures c.in-Got.is in
    let small : c.args.base + c.in-Got.v ≤ 31 =
    omega (arith, field_lt c.args.bits c.args.packet.now c.args.at (more-got), c.requires.2) in
    small

pub returns-in-Refused : goal.returns-in-Refused
returns-in-Refused c = sym (ap as_component (added_end c.args.bits c.args.base c.args.packet.now c.args.at (read_refused (field c.args.bits c.args.packet.now c.args.at) c.read-more.ensures c.in-Refused.is)))

pub returns-in-Refused-last : goal.returns-in-Refused-last
returns-in-Refused-last c =
    let more-got : field c.args.bits c.args.packet.now c.args.at ≡ got c.in-Got.v c.in-Got.next =
    read_got (field c.args.bits c.args.packet.now c.args.at) c.read-more.ensures c.in-Got.is in
    sym (ap as_component (added_cut c.args.bits c.args.base c.args.packet.now c.args.at (more-got) (read_refused (field 1 c.args.packet.now c.in-Got.next) c.read-last.ensures c.in-Refused-last.is)))

pub returns-in-Got-last : goal.returns-in-Got-last
returns-in-Got-last c =
    let more-got : field c.args.bits c.args.packet.now c.args.at ≡ got c.in-Got.v c.in-Got.next =
    read_got (field c.args.bits c.args.packet.now c.args.at) c.read-more.ensures c.in-Got.is in
    let sign-got : field 1 c.args.packet.now c.in-Got.next ≡ got c.in-Got-last.s c.in-Got-last.end =
    read_got (field 1 c.args.packet.now c.in-Got.next) c.read-last.ensures c.in-Got-last.is in
    ap (λ (z : ℤ). component-read.Got z c.in-Got-last.end) (back w32 c.signed_value.result c.signed_value.type_inv ∙ c.signed_value.ensures) ∙ sym (ap as_component (added_got c.args.bits c.args.base c.args.packet.now c.args.at (more-got) (sign-got)))

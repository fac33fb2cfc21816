-- `frame_type::read_reserved` meets its contract. Assumes nothing.
use mathlib.Core.Path.{◌≡◌, sym, ap, ◌∙◌}
use borrow.Author.Tests.{eq-eqb, ne_eqb}
use Rattle.bitstream.specs.Reading.{got, field}
use Rattle.bitstream.specs.Answer.{as_field}
use Rattle.bitstream.proofs.Fields.{read_got, read_refused, judged_end, judged_fails, judged_passes}
use Rattle.frame_type.specs.Judged.{is_zero}
use Rattle.frame_type.proofs.Facts.{reserved_inter, reserved_intra}
use borrow.Author.Rules.{rules}
use Rattle.frame_type.proofs.read_reserved.Goals as goal

pub returns-then-kind-ne0 : goal.returns-then-kind-ne0
returns-then-kind-ne0 c = sym (ap as_field (reserved_inter c.args.kind c.args.packet.now c.args.at c.if-kind-ne0.true))

pub returns-then-v-eq0 : goal.returns-then-v-eq0
returns-then-v-eq0 c =
    let bits-got : field 3 c.args.packet.now c.args.at ≡ got c.in-Got.v c.in-Got.end =
    read_got (field 3 c.args.packet.now c.args.at) c.read-bits.ensures c.in-Got.is in
    sym (ap as_field (reserved_intra c.args.kind c.args.packet.now c.args.at c.if-kind-ne0.false ∙ judged_passes 3 is_zero 11 c.args.packet.now c.args.at (bits-got) (eq-eqb _ 0 c.if-v-eq0.true)))

pub returns-in-Refused : goal.returns-in-Refused
returns-in-Refused c = sym (ap as_field (reserved_intra c.args.kind c.args.packet.now c.args.at c.if-kind-ne0.false ∙ judged_end 3 is_zero 11 c.args.packet.now c.args.at (read_refused (field 3 c.args.packet.now c.args.at) c.read-bits.ensures c.in-Refused.is)))

pub returns-else-v-eq0 : goal.returns-else-v-eq0
returns-else-v-eq0 c =
    let bits-got : field 3 c.args.packet.now c.args.at ≡ got c.in-Got.v c.in-Got.end =
    read_got (field 3 c.args.packet.now c.args.at) c.read-bits.ensures c.in-Got.is in
    sym (ap as_field (reserved_intra c.args.kind c.args.packet.now c.args.at c.if-kind-ne0.false ∙ judged_fails 3 is_zero 11 c.args.packet.now c.args.at (bits-got) (ne_eqb _ 0 c.if-v-eq0.false)))

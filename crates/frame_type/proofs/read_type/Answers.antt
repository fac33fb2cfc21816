-- `frame_type::read_type` meets its contract. Assumes nothing.
use mathlib.Core.Path.{◌≡◌, sym, ap, ◌∙◌}
use Rattle.bitstream.specs.Reading.{got, field}
use Rattle.bitstream.specs.Answer.{as_field}
use Rattle.bitstream.proofs.Fields.{read_got, read_refused}
use Rattle.frame_type.proofs.Facts.{may_intra, may_inter, type_end, type_marked, type_cut, type_got, type_none}
use borrow.Author.Rules.{rules}
use Rattle.frame_type.proofs.read_type.Goals as goal

pub returns-then-b-ne0 : goal.returns-then-b-ne0
returns-then-b-ne0 c =
    let first-got : field 1 c.args.packet.now c.args.at ≡ got c.in-Got.b c.in-Got.next =
    read_got (field 1 c.args.packet.now c.args.at) c.read-first.ensures c.in-Got.is in
    sym (ap as_field (type_marked c.args.references c.args.packet.now c.args.at (first-got) c.if-b-ne0.true))

pub returns-then-t-eq0 : goal.returns-then-t-eq0
returns-then-t-eq0 c =
    let first-got : field 1 c.args.packet.now c.args.at ≡ got c.in-Got.b c.in-Got.next =
    read_got (field 1 c.args.packet.now c.args.at) c.read-first.ensures c.in-Got.is in
    let bit-got : field 1 c.args.packet.now c.in-Got.next ≡ got c.in-Got-bit.t c.in-Got-bit.end =
    read_got (field 1 c.args.packet.now c.in-Got.next)
    c.read-bit.ensures c.in-Got-bit.is in
    sym (ap as_field (type_got c.args.references c.args.packet.now c.args.at (first-got) c.if-b-ne0.false (bit-got) (may_intra c.args.references _ c.if-t-eq0.true)))

pub returns-then-references : goal.returns-then-references
returns-then-references c =
    let first-got : field 1 c.args.packet.now c.args.at ≡ got c.in-Got.b c.in-Got.next =
    read_got (field 1 c.args.packet.now c.args.at) c.read-first.ensures c.in-Got.is in
    let bit-got : field 1 c.args.packet.now c.in-Got.next ≡ got c.in-Got-bit.t c.in-Got-bit.end =
    read_got (field 1 c.args.packet.now c.in-Got.next)
    c.read-bit.ensures c.in-Got-bit.is in
    sym (ap as_field (type_got c.args.references c.args.packet.now c.args.at (first-got) c.if-b-ne0.false (bit-got) (may_inter c.args.references _ c.if-t-eq0.false ∙ c.if-references.true)))

pub returns-in-Refused : goal.returns-in-Refused
returns-in-Refused c = sym (ap as_field (type_end c.args.references c.args.packet.now c.args.at (read_refused (field 1 c.args.packet.now c.args.at) c.read-first.ensures c.in-Refused.is)))

pub returns-in-Refused-bit : goal.returns-in-Refused-bit
returns-in-Refused-bit c =
    let first-got : field 1 c.args.packet.now c.args.at ≡ got c.in-Got.b c.in-Got.next =
    read_got (field 1 c.args.packet.now c.args.at) c.read-first.ensures c.in-Got.is in
    sym (ap as_field (type_cut c.args.references c.args.packet.now c.args.at (first-got) c.if-b-ne0.false (read_refused (field 1 c.args.packet.now c.in-Got.next) c.read-bit.ensures c.in-Refused-bit.is)))

pub returns-else-references : goal.returns-else-references
returns-else-references c =
    let first-got : field 1 c.args.packet.now c.args.at ≡ got c.in-Got.b c.in-Got.next =
    read_got (field 1 c.args.packet.now c.args.at) c.read-first.ensures c.in-Got.is in
    let bit-got : field 1 c.args.packet.now c.in-Got.next ≡ got c.in-Got-bit.t c.in-Got-bit.end =
    read_got (field 1 c.args.packet.now c.in-Got.next)
    c.read-bit.ensures c.in-Got-bit.is in
    sym (ap as_field (type_none c.args.references c.args.packet.now c.args.at (first-got) c.if-b-ne0.false (bit-got) (may_inter c.args.references _ c.if-t-eq0.false ∙ c.if-references.false)))

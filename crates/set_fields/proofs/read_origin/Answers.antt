-- `set_fields::read_origin` meets its contract. Assumes nothing.
use Prim.Native.Nat.{◌-◌}
use mathlib.Core.Path.{◌≡◌, ap, sym, ◌∙◌}
use Rattle.bitstream.specs.Reading.{got, field}
use Rattle.bitstream.specs.Answer.{as_field}
use Rattle.bitstream.proofs.Fields.{read_got, read_refused}
use Rattle.set_fields.proofs.Fields.{origin_first, origin_end, origin_new, origin_last, origin_end2, origin_plane, origin_before}
use borrow.Author.Rules.{rules}
use Rattle.set_fields.proofs.read_origin.Goals as goal

pub returns-then-k-eq0 : goal.returns-then-k-eq0
returns-then-k-eq0 c = sym (ap as_field (origin_first c.args.k c.args.packet.now c.args.at c.if-k-eq0.true))

pub returns-in_default : goal.returns-in_default
returns-in_default c = c.in_default.is ∙ sym (ap as_field (origin_end c.args.k c.args.packet.now c.args.at c.if-k-eq0.false (read_refused (field 1 c.args.packet.now c.args.at) c.read-fresh.ensures c.in_default.is)))

pub returns-then-newqr-eq1 : goal.returns-then-newqr-eq1
returns-then-newqr-eq1 c =
    let fresh-got : field 1 c.args.packet.now c.args.at ≡ got c.in-Got.newqr c.in-Got.next =
    read_got (field 1 c.args.packet.now c.args.at) c.read-fresh.ensures c.in-Got.is in
    sym (ap as_field (origin_new c.args.k c.args.packet.now c.args.at c.if-k-eq0.false (fresh-got) c.if-newqr-eq1.true))

pub returns-then-k-lt3 : goal.returns-then-k-lt3
returns-then-k-lt3 c =
    let fresh-got : field 1 c.args.packet.now c.args.at ≡ got c.in-Got.newqr c.in-Got.next =
    read_got (field 1 c.args.packet.now c.args.at) c.read-fresh.ensures c.in-Got.is in
    sym (ap as_field (origin_last c.args.k c.args.packet.now c.args.at c.if-k-eq0.false (fresh-got) c.if-newqr-eq1.false c.if-k-lt3.true))

pub returns-in_default-same : goal.returns-in_default-same
returns-in_default-same c =
    let fresh-got : field 1 c.args.packet.now c.args.at ≡ got c.in-Got.newqr c.in-Got.next =
    read_got (field 1 c.args.packet.now c.args.at) c.read-fresh.ensures c.in-Got.is in
    c.in_default-same.is
    ∙ sym (ap as_field (origin_end2 c.args.k c.args.packet.now c.args.at c.if-k-eq0.false (fresh-got) c.if-newqr-eq1.false c.if-k-lt3.false
    (read_refused (field 1 c.args.packet.now c.in-Got.next) c.read-same.ensures c.in_default-same.is)))

pub returns-then-rpqr-eq1 : goal.returns-then-rpqr-eq1
returns-then-rpqr-eq1 c =
    let fresh-got : field 1 c.args.packet.now c.args.at ≡ got c.in-Got.newqr c.in-Got.next =
    read_got (field 1 c.args.packet.now c.args.at) c.read-fresh.ensures c.in-Got.is in
    let same-got : field 1 c.args.packet.now c.in-Got.next ≡ got c.in-Got-same.rpqr c.in-Got-same.behind =
    read_got (field 1 c.args.packet.now c.in-Got.next) c.read-same.ensures c.in-Got-same.is in
    sym (ap as_field (origin_plane c.args.k c.args.packet.now c.args.at c.if-k-eq0.false (fresh-got) c.if-newqr-eq1.false c.if-k-lt3.false (same-got) c.if-rpqr-eq1.true))

pub returns : goal.returns
returns c =
    let fresh-got : field 1 c.args.packet.now c.args.at ≡ got c.in-Got.newqr c.in-Got.next =
    read_got (field 1 c.args.packet.now c.args.at) c.read-fresh.ensures c.in-Got.is in
    let same-got : field 1 c.args.packet.now c.in-Got.next ≡ got c.in-Got-same.rpqr c.in-Got-same.behind =
    read_got (field 1 c.args.packet.now c.in-Got.next) c.read-same.ensures c.in-Got-same.is in
    sym (ap as_field (origin_before c.args.k c.args.packet.now c.args.at c.if-k-eq0.false (fresh-got) c.if-newqr-eq1.false c.if-k-lt3.false (same-got) c.if-rpqr-eq1.false))

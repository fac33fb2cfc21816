use native.Mathlib.Omega.{arith}
use mathlib.Core.Path.{◌≡◌, sym, ap, ◌∙◌}
use Rattle.bitstream.specs.Reading.{got, field}
use Rattle.bitstream.proofs.Fields.{read_got, read_refused, field_lt}
use Rattle.frame_header.specs.Answer.{as_qis}
use Rattle.frame_header.proofs.Facts.{listed_start, listed_done, listed_end, listed_none, listed_cut, listed_on}
use Rattle.frame_header.proofs.read_more.Goals as goal

pub loop-count-init : goal.loop-count-init
loop-count-init c = listed_start c.args.packet.now c.args.at c.args.first

pub returns-in-Refused : goal.returns-in-Refused
returns-in-Refused c = c.no_qis.ensures
    ∙ sym (ap as_qis (listed_end c.args.packet.now c.args.at c.args.first c.loop-count.qis c.loop-count.count c.loop-count.place c.loop-count.invariant c.loop-count-test.true (read_refused (field 1 c.args.packet.now c.loop-count.place) c.read-more.ensures c.in-Refused.is)))

pub returns-then-b-eq0 : goal.returns-then-b-eq0
returns-then-b-eq0 c =
    let more-got : field 1 c.args.packet.now c.loop-count.place ≡ got c.in-Got.b c.in-Got.next =
    read_got (field 1 c.args.packet.now c.loop-count.place) c.read-more.ensures c.in-Got.is in
    listed_none c.args.packet.now c.args.at c.args.first c.loop-count.qis c.loop-count.count c.loop-count.place c.loop-count.invariant c.loop-count-test.true
    (more-got) c.if-b-eq0.true

pub returns-in-Refused-qi : goal.returns-in-Refused-qi
returns-in-Refused-qi c =
    let more-got : field 1 c.args.packet.now c.loop-count.place ≡ got c.in-Got.b c.in-Got.next =
    read_got (field 1 c.args.packet.now c.loop-count.place) c.read-more.ensures c.in-Got.is in
    c.no_qis-in-Refused-qi.ensures
    ∙ sym (ap as_qis (listed_cut c.args.packet.now c.args.at c.args.first c.loop-count.qis c.loop-count.count c.loop-count.place c.loop-count.invariant c.loop-count-test.true (more-got) c.if-b-eq0.false (read_refused (field 6 c.args.packet.now c.in-Got.next) c.read-qi.ensures c.in-Refused-qi.is)))

pub overflow_cast-qis : goal.overflow_cast-qis
overflow_cast-qis c =
    let qi-got : field 6 c.args.packet.now c.in-Got.next ≡ got c.in-Got-qi.q c.in-Got-qi.end =
    read_got (field 6 c.args.packet.now c.in-Got.next)
    c.read-qi.ensures c.in-Got-qi.is in
    omega (arith, field_lt 6 _ _ (qi-got))

pub loop-count-preserved : goal.loop-count-preserved
loop-count-preserved c =
    let more-got : field 1 c.args.packet.now c.loop-count.place ≡ got c.in-Got.b c.in-Got.next =
    read_got (field 1 c.args.packet.now c.loop-count.place) c.read-more.ensures c.in-Got.is in
    let qi-got : field 6 c.args.packet.now c.in-Got.next ≡ got c.in-Got-qi.q c.in-Got-qi.end =
    read_got (field 6 c.args.packet.now c.in-Got.next)
    c.read-qi.ensures c.in-Got-qi.is in
    listed_on c.args.packet.now c.args.at c.args.first c.loop-count.qis c.loop-count.count c.loop-count.place c.loop-count.invariant
    c.loop-count-test.true (more-got)
    c.if-b-eq0.false (qi-got)

pub returns : goal.returns
returns c = listed_done c.args.packet.now c.args.at c.args.first c.loop-count.qis c.loop-count.count c.loop-count.place c.loop-count.invariant c.loop-count-test.false

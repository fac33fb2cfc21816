use Prim.Native.Nat.{ℕ, ◌+◌, ◌-◌, ◌≤◌, ◌<◌}
use native.Mathlib.Omega.{arith}
use mathlib.Core.Path.{◌≡◌, sym, ap, ◌∙◌}
use Rattle.bitstream.specs.Answer.{as_field}
use Rattle.bitstream.proofs.Fields.{read_got, read_refused}
use Rattle.bitstream.specs.Reading.{got, field, unary}
use Rattle.bitstream.proofs.Unary.{unary_full, unary_end, unary_stop, unary_on}
use borrow.Author.Rules.{rules}
use Rattle.bitstream.proofs.read_unary.Goals as goal

pub returns-in-Refused : goal.returns-in-Refused
returns-in-Refused c = sym (ap as_field (c.loop-r.invariant.1 ∙ unary_end c.args.packet.now c.loop-r.place c.args.ones c.loop-r.r c.loop-r-test.true (read_refused (field 1 c.args.packet.now c.loop-r.place) c.read-one.ensures c.in-Refused.is)))

pub returns-then-b-eq0 : goal.returns-then-b-eq0
returns-then-b-eq0 c =
    let bit-got : field 1 c.args.packet.now c.loop-r.place ≡ got c.in-Got.b c.in-Got.next =
    read_got (field 1 c.args.packet.now c.loop-r.place) c.read-one.ensures c.in-Got.is in
    sym (ap as_field (c.loop-r.invariant.1 ∙ unary_stop c.args.packet.now c.loop-r.place c.args.ones c.loop-r.r c.loop-r-test.true (bit-got) c.if-b-eq0.true))

pub loop-r-preserved : goal.loop-r-preserved
loop-r-preserved c =
    let bit-got : field 1 c.args.packet.now c.loop-r.place ≡ got c.in-Got.b c.in-Got.next =
    read_got (field 1 c.args.packet.now c.loop-r.place) c.read-one.ensures c.in-Got.is in
    (omega (arith, c.loop-r-test.true), c.loop-r.invariant.1 ∙ unary_on c.args.packet.now c.loop-r.place c.args.ones c.loop-r.r c.loop-r-test.true (bit-got) c.if-b-eq0.false)

pub returns : goal.returns
returns c = sym (ap as_field (c.loop-r.invariant.1 ∙ unary_full c.args.packet.now c.loop-r.place c.args.ones c.loop-r.r c.loop-r-test.false))

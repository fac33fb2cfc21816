use mathlib.Core.Bool.{true}
use mathlib.Core.Path.{◌≡◌, sym, ◌∙◌}
use lib.ListN.{get_or}
use Rattle.text.specs.Decimal.{is_digit}
use Rattle.text.proofs.Steps.{scanning_more, found_end, found_other, found_ten}
use Rattle.text.proofs.scan.Goals as goal

pub returns-then-text-next : goal.returns-then-text-next
returns-then-text-next c = found_end c.args.text.now c.args.at c.loop-k.value c.loop-k.next c.loop-k.k c.loop-k.invariant c.if-text-next.true

pub returns-then-not-is_digit : goal.returns-then-not-is_digit
returns-then-not-is_digit c = found_other c.args.text.now c.args.at c.loop-k.value c.loop-k.next c.loop-k.k c.loop-k.invariant c.if-text-next.false (sym c.is_digit.ensures ∙ c.if-not-is_digit.true)

pub loop-k-preserved : goal.loop-k-preserved
loop-k-preserved c =
    let digit : is_digit (get_or c.args.text.now c.loop-k.next 0) ≡ true =
    sym c.is_digit.ensures ∙ c.if-not-is_digit.false in
    scanning_more c.args.text.now c.args.at c.loop-k.value c.loop-k.next c.loop-k.k c.loop-k.invariant c.loop-k-test.true c.if-text-next.false (digit)

pub returns : goal.returns
returns c = found_ten c.args.text.now c.args.at c.loop-k.value c.loop-k.next c.loop-k.k c.loop-k.invariant c.loop-k-test.false

-- `text::digit_count` meets its contract. The loop's invariant: the number has at most k digits. Assumes nothing.
use Rattle.text.proofs.Steps.{Counted}
use Rattle.text.proofs.digit_count.Given as goal

abbrev pub invariant-loop-power : goal.invariant-loop-power
invariant-loop-power l = Counted l.n l.power l.k

abbrev pub decreases-loop-power : goal.decreases-loop-power
decreases-loop-power l = l.k

-- `text::stands_at` meets its contract. Assumes nothing.
use native.Mathlib.Omega.{arith}
use mathlib.Core.Path.{sym}
use lib.ListN.{length, drop, length-take, length-drop}
use Rattle.output.specs.Output.{part}
use Rattle.text.proofs.Texts.{same_lengths}
use Rattle.text.proofs.stands_at.Goals as goal

pub returns-then-text-at : goal.returns-then-text-at
returns-then-text-at c = let n = length-take (length c.args.bytes.now) (drop c.args.at c.args.text.now) in
    let d = length-drop c.args.at c.args.text.now in
    sym (same_lengths (part c.args.text.now c.args.at (length c.args.bytes.now)) c.args.bytes.now (λ e. omega (arith, n, d, c.if-text-at.true)))

use Prim.Native.Nat.{ℕ}
use native.Mathlib.Omega.{arith}
use mathlib.Core.Path.{◌≡◌, sym, ap, ◌∙◌}
use lib.ListN.{length-set}
use Rattle.output.specs.Output.{spliced}
use Rattle.text.specs.Decimal.{digits}
use Rattle.text.proofs.Steps.{digit_more, digits_none}
use Rattle.text.proofs.put_digits.Goals as goal

pub loop-i-preserved : goal.loop-i-preserved
loop-i-preserved c = (
  omega arith,
  simp length-set c.loop-i.invariant.1,
  digit_more c.args.at c.loop-i.rest c.loop-i.i c.loop-i.out c.loop-i-test.true (omega (arith, c.loop-i.invariant.0, c.loop-i.invariant.1, c.requires)) ∙ c.loop-i.invariant.2,
)

pub returns : goal.returns
returns c = let e : c.loop-i.i ≡ 0 = omega arith in
    sym (digits_none c.args.at c.loop-i.rest c.loop-i.out) ∙ ap (λ (m : ℕ). spliced c.args.at (digits m c.loop-i.rest) c.loop-i.out) (sym e) ∙ c.loop-i.invariant.2

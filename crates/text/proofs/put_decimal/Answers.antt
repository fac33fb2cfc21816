-- `text::put_decimal` meets its contract. Assumes nothing.
use Prim.Native.Nat.{ℕ}
use native.Mathlib.Omega.{arith}
use mathlib.Core.Path.{◌≡◌, sym, ap, ◌∙◌}
use mathlib.Core.List.{List}
use lib.ListN.{length}
use Rattle.output.specs.Output.{spliced}
use Rattle.text.specs.Decimal.{decimal}
use Rattle.text.proofs.Decimals.{length_digits}
use Rattle.text.proofs.put_decimal.Goals as goal

pub returns : goal.returns
returns c = let n : length (decimal c.args.n) ≡ c.digit_count-k.result = ap (λ (l : List ℕ). length l) c.digit_count-k.ensures.0 ∙ length_digits c.digit_count-k.result c.args.n in record { value = omega (arith, n); out_after = c.put_digits.ensures ∙ ap (λ (l : List ℕ). spliced c.args.at l c.args.out.now) (sym c.digit_count-k.ensures.0) }

-- `output::put` meets its contract. Assumes nothing.
use Prim.Native.Nat.{ℕ, ◌+◌}
use native.Mathlib.Omega.{arith}
use mathlib.Core.Path.{◌≡◌, refl, ap, ◌∙◌}
use mathlib.Core.List.{List}
use lib.ListN.{length}
use Rattle.output.specs.Output.{spliced}
use Rattle.output.proofs.Splices.{spliced_part}
use Rattle.output.proofs.put.Goals as goal

pub returns : goal.returns
returns c = let n : length c.copy.new.dst ≡ length c.args.bytes.now = ap (λ (x : List ℕ). length x) c.copy.ensures in record {
  value = refl;
  out_after = spliced_part c.args.at (c.args.at + length c.args.bytes.now) c.copy.new.dst c.args.out.now (omega (arith, n))
      ∙ ap (λ (x : List ℕ). spliced c.args.at x c.args.out.now) c.copy.ensures;
}

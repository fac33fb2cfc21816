-- `y4m::header::put_format` meets its contract. Assumes nothing.
use Prim.Native.Nat.{ℕ, ◌+◌}
use mathlib.Core.Path.{sym, ap, ◌∙◌}
use mathlib.Core.List.{List}
use lib.ListN.{length}
use Rattle.output.specs.Output.{spliced}
use Rattle.y4m.proofs.HeaderLaws.{format_420, format_422, format_444}
use Rattle.y4m.proofs.header.put_format.Goals as goal

pub returns-then-pf-eq0 : goal.returns-then-pf-eq0
returns-then-pf-eq0 c = let e = format_420 c.args.pf c.if-pf-eq0.true in record { value = c.put.ensures.value ∙ ap (λ (l : List ℕ). c.args.at + length l) (sym e); out_after = c.put.ensures.out_after ∙ ap (λ (l : List ℕ). spliced c.args.at l c.args.out.now) (sym e) }

pub returns-then-pf-eq2 : goal.returns-then-pf-eq2
returns-then-pf-eq2 c = let e = format_422 c.args.pf c.if-pf-eq0.false c.if-pf-eq2.true in record { value = c.put-then-pf-eq2.ensures.value ∙ ap (λ (l : List ℕ). c.args.at + length l) (sym e); out_after = c.put-then-pf-eq2.ensures.out_after ∙ ap (λ (l : List ℕ). spliced c.args.at l c.args.out.now) (sym e) }

pub returns : goal.returns
returns c = let e = format_444 c.args.pf c.if-pf-eq0.false c.if-pf-eq2.false in record { value = c.put-2.ensures.value ∙ ap (λ (l : List ℕ). c.args.at + length l) (sym e); out_after = c.put-2.ensures.out_after ∙ ap (λ (l : List ℕ). spliced c.args.at l c.args.out.now) (sym e) }

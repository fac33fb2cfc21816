-- `settings::put_text` meets its contract. Assumes nothing.
use Prim.Native.Nat.{ℕ}
use native.Mathlib.Omega.{arith}
use mathlib.Core.Path.{sym, ap, ◌∙◌}
use mathlib.Core.List.{List}
use lib.ListN.{length}
use Rattle.output.specs.Output.{spliced}
use Rattle.settings.proofs.Lines.{fit, first_short, text_1, text_written_2}
use Rattle.bitstream.proofs.Clauses.{two}
use Rattle.settings.proofs.put_text.Goals as goal

pub put_line-requires : goal.put_line-requires
put_line-requires c = let f = fit c.args.s c.requires.1 in
    let a = first_short c.args.version c.args.s in
    (omega (arith, f.plane), omega arith, omega (arith, c.requires.2))

pub returns-then-version-eq2 : goal.returns-then-version-eq2
returns-then-version-eq2 c = two (λ a b. record { value = a; out_after = b }) (text_written_2 c.args.version c.args.s c.if-version-eq2.true c.args.out.now _ _ _ _ c.requires.2 c.put_first_lines-plane.ensures.value c.put_first_lines-plane.ensures.out_after c.put_line.ensures.value c.put_line.ensures.out_after)

pub returns : goal.returns
returns c = let e = sym (text_1 c.args.version c.args.s c.if-version-eq2.false) in record { value = c.put_first_lines-plane.ensures.value ∙ ap (λ (x : List ℕ). length x) e; out_after = c.put_first_lines-plane.ensures.out_after ∙ ap (λ (x : List ℕ). spliced 0 x c.args.out.now) e }

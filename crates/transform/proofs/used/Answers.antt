use Rattle.std.proofs.Common.{sym, ◌∙◌, arith, ◌*◌, ◌-◌}
use Rattle.transform.proofs.Zeros.{all_zero, zeros_before}
use Rattle.transform.proofs.used.Goals as goal

pub loop-g-preserved : goal.loop-g-preserved
loop-g-preserved c =
    let e = sym c.line_at.ensures ∙ all_zero c.line_at.result (sym c.ne.ensures ∙ c.if-ne.false) in
    zeros_before c.args.coefs.now c.args.at ((c.loop-g.g - 1) * 8) (c.loop-g.g * 8) (omega arith) e c.loop-g.invariant

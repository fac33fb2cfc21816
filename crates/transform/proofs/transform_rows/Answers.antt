use Rattle.std.proofs.Common.{◌≡◌, ap, ◌∙◌, arith}
use Rattle.lines.specs.Line.{transformed_line}
use Rattle.zig_zag.specs.Placing.{turned}
use Rattle.transform.proofs.Rows.{no_row, next_row, all_rows}
use Rattle.transform.proofs.transform_rows.Goals as goal

pub loop-i-init : goal.loop-i-init
loop-i-init c = no_row c.args.out.now c.args.turned.now c.requires.1

pub loop-i-preserved : goal.loop-i-preserved
loop-i-preserved c = rw c.put_line.ensures
    (next_row c.loop-i.out c.args.turned.now c.loop-i.i _ (omega arith) (c.transformed_line-l.ensures ∙ ap transformed_line c.line_at.ensures) c.loop-i.invariant)

pub returns : goal.returns
unfolding turned
returns c = let e : c.loop-i.i ≡ 8 = omega arith in all_rows c.loop-i.out c.args.turned.now (rw e at c.loop-i.invariant)

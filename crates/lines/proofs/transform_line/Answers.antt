-- `lines::transform_line` meets its contract. Assumes nothing.
use mathlib.Core.Path.{ap, ◌∙◌}
use Rattle.lines.specs.Line.{transformed_line}
use Rattle.lines.specs.Places.{put_line, transform_line}
use Rattle.lines.proofs.transform_line.Goals as goal

pub returns : goal.returns
unfolding transform_line
returns c = c.put_line.ensures
    ∙ ap (put_line c.args.s.now c.args.at c.args.step)
    (c.transformed_line-l.ensures ∙ ap transformed_line c.line_at.ensures)

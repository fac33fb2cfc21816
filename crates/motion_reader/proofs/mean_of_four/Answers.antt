-- `motion_reader::mean_of_four` meets its contract. Assumes nothing.
use mathlib.Core.Path.{◌∙◌}
use mir.Syntax.{w32}
use lib.IntN.{◌+ℤ◌}
use Rattle.numeric.proofs.Known.{back}
use Rattle.numeric.specs.Divide.{round_over}
use Rattle.motion_reader.specs.Motion.{mean_of_four}
use Rattle.motion_reader.proofs.Components.{kept}
use Rattle.motion_reader.proofs.mean_of_four.Goals as goal

pub returns : goal.returns
unfolding mean_of_four
returns c = λ i. record { x = (back w32 c.mean_4.result c.mean_4.type_inv ∙ c.mean_4.ensures ∙ (λ j. round_over 4 ((kept c.args.l.left.x c.requires.0.left.x j +ℤ kept c.args.l.right.x c.requires.0.right.x j) +ℤ (kept c.args.u.left.x c.requires.1.left.x j +ℤ kept c.args.u.right.x c.requires.1.right.x j)))) i; y = (back w32 c.mean_4-2.result c.mean_4-2.type_inv ∙ c.mean_4-2.ensures ∙ (λ j. round_over 4 ((kept c.args.l.left.y c.requires.0.left.y j +ℤ kept c.args.l.right.y c.requires.0.right.y j) +ℤ (kept c.args.u.left.y c.requires.1.left.y j +ℤ kept c.args.u.right.y c.requires.1.right.y j)))) i }

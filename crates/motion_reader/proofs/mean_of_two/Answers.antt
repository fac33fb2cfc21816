-- `motion_reader::mean_of_two` meets its contract. Assumes nothing.
use mathlib.Core.Path.{◌∙◌}
use mir.Syntax.{w32}
use lib.IntN.{◌+ℤ◌}
use Rattle.numeric.proofs.Known.{back}
use Rattle.numeric.specs.Divide.{round_over}
use Rattle.motion_reader.specs.Motion.{mean_of_two}
use Rattle.motion_reader.proofs.Components.{kept}
use Rattle.motion_reader.proofs.mean_of_two.Goals as goal

pub returns : goal.returns
unfolding mean_of_two
returns c = λ i. record { x = (back w32 c.mean_2.result c.mean_2.type_inv ∙ c.mean_2.ensures ∙ (λ j. round_over 2 (kept c.args.r.left.x c.requires.left.x j +ℤ kept c.args.r.right.x c.requires.right.x j))) i; y = (back w32 c.mean_2-2.result c.mean_2-2.type_inv ∙ c.mean_2-2.ensures ∙ (λ j. round_over 2 (kept c.args.r.left.y c.requires.left.y j +ℤ kept c.args.r.right.y c.requires.right.y j))) i }

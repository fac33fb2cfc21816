-- `geometry::one_of_four` meets its contract. Assumes nothing.
use Rattle.geometry.proofs.MacroLaws.{four_at}
use Rattle.geometry.proofs.one_of_four.Goals as goal

pub returns : goal.returns
returns c = four_at c.args.plane c.args.x c.args.y c.args.j c.requires.2

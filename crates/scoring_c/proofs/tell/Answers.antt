-- `scoring_c::tell` meets its contract. Assumes nothing.
use mathlib.Core.Path.{sym, ap, ◌∙◌}
use Rattle.session_list.specs.List.{gives}
use Rattle.scoring_c.specs.Face.{wrote_returned}
use Rattle.session_list.proofs.Lists.{only}
use Rattle.scoring_c.proofs.tell.Goals as goal

pub returns-in-Bytes : goal.returns-in-Bytes
returns-in-Bytes c = ap (gives 0) (only c.args.list.now c.in-Bytes.n c.requires) ∙ sym (ap (wrote_returned c.args.list.now) c.in-Bytes.is)

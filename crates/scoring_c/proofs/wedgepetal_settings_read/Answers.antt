-- `scoring_c::wedgepetal_settings_read` meets its contract. Assumes nothing.
use Rattle.scoring_c.proofs.Calls.{read_list, read_pass}
use Rattle.scoring_c.proofs.wedgepetal_settings_read.Goals as goal

pub returns-then-list-ne4 : goal.returns-then-list-ne4
returns-then-list-ne4 c = read_list c.args.list.now _ c.if-list-ne4.true

pub returns : goal.returns
returns c = read_pass c.args.version c.args.text.now c.args.list.now c.if-list-ne4.false c.settings_of-s.result c.settings_of-s.ensures c.read.result _ c.read.ensures c.tell_settings.ensures

-- `settings::said_in` meets its contract. Assumes nothing.
use Rattle.settings.proofs.Lines.{said_there, said_0}
use Rattle.settings.proofs.said_in.Goals as goal

pub returns-then-version-eq2 : goal.returns-then-version-eq2
returns-then-version-eq2 c = said_there c.args.version c.args.text.now _ _ _ _ _ _ _ _ _ _ c.scan-v.ensures c.scan-tile.ensures c.scan-first.ensures c.scan-last.ensures c.scan-plane.ensures c.if-version-eq2.true

pub returns : goal.returns
returns c = said_0 c.args.version c.args.text.now _ _ _ _ _ _ _ _ _ _ c.scan-v.ensures c.scan-tile.ensures c.scan-first.ensures c.scan-last.ensures c.scan-plane.ensures c.if-version-eq2.false

-- `fetches::fetch` meets its contract: the sample lies in the buffer.
-- Assumes nothing.
use Rattle.std.proofs.Common.{arith}
use Rattle.fetches.proofs.Leads.{in_plane}
use Rattle.fetches.proofs.fetch.Goals as goal

pub bounds-s-at : goal.bounds-s-at
bounds-s-at c = omega (arith, in_plane c.args.plane c.inside-x.result c.inside-y.result c.inside-x.ensures.1 c.inside-y.ensures.1, c.requires.end)

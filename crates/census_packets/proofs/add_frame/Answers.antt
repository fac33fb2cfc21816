-- `census_packets::add_frame` meets its contract. Assumes nothing.
use mathlib.Core.Path.{◌≡◌}
use lib.ListN.{length}
use Rattle.census_packets.proofs.Adds.{frame_runs}
use borrow.Author.Rules.{rules}
use Rattle.census_packets.proofs.add_frame.Goals as goal

pub returns : goal.returns
returns c = let hc : length c.args.counts.coded ≡ 3 = search rules in let hu : length c.args.counts.uncoded ≡ 3 = search rules in let hm : length c.args.counts.modes ≡ 8 = search rules in λ l h. frame_runs c.args.counts hc hu hm _ l c.args.kind (c.add.ensures _ (c.add_at-more.ensures l h))

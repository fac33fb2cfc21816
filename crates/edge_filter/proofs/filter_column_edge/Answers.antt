-- `edge_filter::filter_column_edge` meets its contract.
-- Assumes nothing.
use mathlib.Core.Path.{◌∙◌}
use Rattle.edge_filter.proofs.Edge.{column_edge}
use Rattle.edge_filter.proofs.filter_column_edge.Goals as goal

pub returns : goal.returns
returns c = c.write_pairs.ensures
    ∙ column_edge c.args.limit c.args.at c.args.row c.args.s.now c.requires.2 _ _ c.fours-t.ensures c.column_sides-r.ensures

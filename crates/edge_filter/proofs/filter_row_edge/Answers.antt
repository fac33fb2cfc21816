-- `edge_filter::filter_row_edge` meets its contract.
-- Assumes nothing.
use mathlib.Core.Path.{ap, ◌∙◌}
use Prim.Native.Nat.{◌+◌, ◌*◌}
use lib.ListN.{get_or}
use Rattle.ways.specs.Corner.{row_at}
use Rattle.edge_filter.proofs.Edge.{row_edge}
use Rattle.edge_filter.proofs.filter_row_edge.Goals as goal

pub returns : goal.returns
returns c = c.copy_row-2.ensures
    ∙ ap (row_at (λ c'. get_or c.row_sides-t.result (8 + c') 0) (c.args.at + c.args.row * 2)) c.copy_row.ensures
    ∙ row_edge c.args.limit c.args.at c.args.row c.args.s.now c.requires.2 c.row_sides-t.result c.row_sides-t.ensures

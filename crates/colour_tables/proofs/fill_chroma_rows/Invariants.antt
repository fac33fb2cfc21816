-- `colour_tables::fill_chroma_rows` meets its contract. The loop's invariant: k rows are made. Assumes nothing.
use Rattle.std.proofs.Common.{◌≡◌, ◌*◌, take}
use Rattle.geometry.specs.Order.{in_turn}
use Rattle.colour_tables.proofs.Parts.{row_part}
use Rattle.colour_tables.proofs.fill_chroma_rows.Given as goal

abbrev pub invariant-loop-k : goal.invariant-loop-k
invariant-loop-k l = take (9 * l.k) l.rows ≡ in_turn row_part (3 * l.k)

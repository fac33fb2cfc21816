use Rattle.std.proofs.Common.{ℕ, ◌+◌, ◌*◌, List, length, ap, sym, ◌∙◌, subst, arith}
use Rattle.buffer.proofs.Laws.{cleared_all}
use Rattle.rows.proofs.Facts.{row_fits}
use Rattle.tile_map.specs.Tiles.{marked, Flags}
use Rattle.tile_map.proofs.Strips.{strip_none, strip_more, strip_length, strip_flags}
use Rattle.tile_map.proofs.write_tile_row.Goals as goal

pub loop-r-init : goal.loop-r-init
loop-r-init c = c.clear_bytes.ensures ∙ cleared_all 0 c.args.map.now ∙ strip_none c.args.previous.now c.args.new.now c.args.from c.args.row c.args.tile c.args.map.now c.requires.3

pub mark_row-requires : goal.mark_row-requires
mark_row-requires c =
    let h = row_fits c.loop-r.r c.args.rows c.args.row c.loop-r-test.true in
    let size = ap (λ (m : List ℕ). length m) c.loop-r.invariant ∙ strip_length c.args.previous.now c.args.new.now c.args.from c.args.row c.args.tile c.loop-r.r in
    (c.requires.0, c.requires.1, (omega arith, omega arith), size, subst Flags (sym c.loop-r.invariant) (strip_flags c.args.previous.now c.args.new.now c.args.from c.args.row c.args.tile c.loop-r.r))

pub loop-r-preserved : goal.loop-r-preserved
loop-r-preserved c =
    c.mark_row.ensures
    ∙ ap (marked c.args.previous.now c.args.new.now (c.args.from + c.loop-r.r * c.args.row) c.args.row c.args.tile) c.loop-r.invariant
    ∙ strip_more c.args.previous.now c.args.new.now c.args.from c.args.row c.args.tile c.loop-r.r

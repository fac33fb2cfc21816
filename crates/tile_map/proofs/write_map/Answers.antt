-- `tile_map::write_map` meets its contract. Assumes nothing.
use Prim.Native.Nat.{◌≤◌}
use native.Mathlib.Omega.{arith}
use mathlib.Core.Path.{sym, ◌∙◌}
use Rattle.tile_map.proofs.Planes.{plane_row, plane_rows, plane_both, length_by, map_by}
use Rattle.tile_map.proofs.write_map.Goals as goal

pub write_tiles-requires : goal.write_tiles-requires
write_tiles-requires c =
    let row_small : c.plane_of-q.result.across ≤ 131070 =
    plane_row c.args.format c.args.w c.args.h c.args.p c.requires.w_le_largest.2 c.requires.w_le_largest.0 c.requires.w_le_largest.1 _ c.plane_of-q.ensures in
    let rows-small : c.plane_of-q.result.up ≤ 131070 =
    plane_rows c.args.format c.args.w c.args.h c.args.p c.requires.w_le_largest.2 c.requires.w_le_largest.0 c.requires.w_le_largest.1 _ c.plane_of-q.ensures in record { tile = (c.requires.w_le_largest.3, omega arith, plane_both c.args.format c.args.w c.args.h c.args.p c.requires.w_le_largest.2 c.requires.w_le_largest.0 c.requires.w_le_largest.1 c.plane_of-q.result c.plane_of-q.ensures c.args.previous.now c.args.new.now c.requires.previous_len.0 c.requires.previous_len.1, c.requires.previous_len.2 ∙ sym (length_by c.args.format c.args.w c.args.h c.args.p c.requires.w_le_largest.2 c.requires.w_le_largest.0 c.requires.w_le_largest.1 c.plane_of-q.result c.plane_of-q.ensures c.args.tile)); row_bound = (omega (arith, row_small), omega (arith, rows-small)) }

pub returns : goal.returns
returns c = c.write_tiles.ensures ∙ map_by c.args.format c.args.w c.args.h c.args.p c.requires.w_le_largest.2 c.requires.w_le_largest.0 c.requires.w_le_largest.1 _ c.plane_of-q.ensures c.args.tile c.args.previous.now c.args.new.now

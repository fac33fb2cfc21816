use Rattle.std.proofs.Common.{◌≡◌, ℕ, ◌+◌, ◌-◌, ◌*◌, ◌≤◌, length, take, drop, sym, ap, ◌∙◌, arith}
use Rattle.std.proofs.Math.Seq.{take_all}
use Rattle.geometry.specs.Sizes.{squares as tiles}
use Rattle.geometry.specs.Order.{in_turn}
use Rattle.geometry.specs.Square.{reach}
use Rattle.output.proofs.Splices.{part_length}
use Rattle.rows.proofs.Facts.{row_fits}
use Rattle.tile_map.specs.Tiles.{plane_map}
use Rattle.tile_map.proofs.Planes.{strip_inside, strip_at, no_strip, strips_more}
use Rattle.tile_map.proofs.write_tiles.Goals as goal

pub loop-y-init : goal.loop-y-init
loop-y-init c =
    let z : 0 * tiles c.args.tile c.args.row ≡ 0 = omega arith in
    rw z (no_strip c.args.first c.args.row c.args.rows c.args.tile c.args.previous.now c.args.new.now c.args.map.now)

pub write_tile_row-requires : goal.write_tile_row-requires
write_tile_row-requires c =
    let t = tiles c.args.tile c.args.row in
    let i = strip_inside c.args.row c.args.rows c.args.tile c.loop-y.y c.loop-y-test.true c.requires.tile.0 in
    let room : c.loop-y.y * t + t ≤ length c.loop-y.map = omega (arith, row_fits c.loop-y.y (tiles c.args.tile c.args.rows) t c.loop-y-test.true) in
    let d : c.loop-y.y * t + t - c.loop-y.y * t ≡ t = omega arith in
    let e : c.min-n.result * c.args.row ≡ reach c.args.tile c.args.rows c.loop-y.y * c.args.row = ap (λ (n : ℕ). n * c.args.row) c.min-n.ensures in
    (c.requires.tile.0, c.requires.tile.1, (omega arith, omega arith), ap (λ (k : ℕ). length (take k (drop (c.loop-y.y * t) c.loop-y.map))) d ∙ part_length c.loop-y.map (c.loop-y.y * t) t room)

pub loop-y-preserved : goal.loop-y-preserved
loop-y-preserved c =
    let t = tiles c.args.tile c.args.row in
    let room : c.loop-y.y * t + t ≤ length c.loop-y.map = omega (arith, row_fits c.loop-y.y (tiles c.args.tile c.args.rows) t c.loop-y-test.true) in
    let next : (c.loop-y.y + 1) * t ≡ c.loop-y.y * t + t = omega arith in
    rw next (strips_more c.args.first c.args.row c.args.rows c.args.tile c.args.previous.now c.args.new.now
    c.loop-y.y (c.loop-y.y * t) c.loop-y.map _ room c.loop-y.invariant (rw c.min-n.ensures at c.write_tile_row.ensures))

pub returns : goal.returns
unfolding plane_map
returns c =
    let t = tiles c.args.tile c.args.row in
    let e : c.loop-y.y ≡ tiles c.args.tile c.args.rows = omega arith in
    let all : c.loop-y.y * t ≡ tiles c.args.tile c.args.rows * t = ap (λ (n : ℕ). n * t) e in
    sym (take_all (c.loop-y.y * t) c.loop-y.map (omega arith))
    ∙ c.loop-y.invariant ∙ ap (in_turn (strip_at c.args.first c.args.row c.args.rows c.args.tile c.args.previous.now c.args.new.now)) e

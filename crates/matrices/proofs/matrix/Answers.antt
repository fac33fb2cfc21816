-- `matrices::matrix` meets its contract. Assumes nothing.
use Prim.Native.Nat.{◌+◌, ◌*◌, ◌≤◌, ◌<◌}
use native.Mathlib.Omega.{arith}
use mathlib.Core.Path.{◌∙◌}
use lib.ListN.{get_or}
use Rattle.bitstream.specs.Bits.{bits}
use Rattle.quant_ranges.specs.Ranges.{InRange}
use Rattle.matrices.proofs.Matrices.{sizes_long, enough, ends, matrix_found_law}
use Rattle.matrices.proofs.matrix.Goals as goal

pub range_of-range-requires : goal.range_of-range-requires
range_of-range-requires c = (
  omega (arith, sizes_long c.args.packet.now c.args.loaded c.requires.1.0 c.requires.1.1 c.args.qti c.args.plane c.args.qi c.requires.2 c.requires.3 c.requires.4),
  enough c.args.packet.now c.args.loaded c.requires.1.0 c.requires.1.1 c.args.qti c.args.plane c.args.qi c.requires.2 c.requires.3 c.requires.4,
  omega arith,
)

pub overflow_add-one : goal.overflow_add-one
overflow_add-one c =
    let facts : let k = (3 * c.args.qti + c.args.plane) * 64 in
    (c.range_of-range.result.number < 63) × InRange c.range_of-range.result c.args.qi × (c.args.loaded.place + get_or c.args.loaded.indices (k + c.range_of-range.result.number) 0 * 512 + 512 ≤ bits c.args.packet.now) × (c.args.loaded.place + get_or c.args.loaded.indices (k + c.range_of-range.result.number + 1) 0 * 512 + 512 ≤ bits c.args.packet.now) =
    ends c.args.packet.now c.args.loaded c.requires.1.0 c.requires.1.1 c.args.qti c.args.plane c.args.qi c.requires.2 c.requires.3 c.requires.4 c.range_of-range.result c.range_of-range.ensures in
    omega (arith, (facts).0)

pub offset_bounds-loaded-start : goal.offset_bounds-loaded-start
offset_bounds-loaded-start c =
    let facts : let k = (3 * c.args.qti + c.args.plane) * 64 in
    (c.range_of-range.result.number < 63) × InRange c.range_of-range.result c.args.qi × (c.args.loaded.place + get_or c.args.loaded.indices (k + c.range_of-range.result.number) 0 * 512 + 512 ≤ bits c.args.packet.now) × (c.args.loaded.place + get_or c.args.loaded.indices (k + c.range_of-range.result.number + 1) 0 * 512 + 512 ≤ bits c.args.packet.now) =
    ends c.args.packet.now c.args.loaded c.requires.1.0 c.requires.1.1 c.args.qti c.args.plane c.args.qi c.requires.2 c.requires.3 c.requires.4 c.range_of-range.result c.range_of-range.ensures in
    omega (arith, (facts).0, c.requires.2, c.requires.3)

pub bounds-loaded-start : goal.bounds-loaded-start
bounds-loaded-start c =
    let facts : let k = (3 * c.args.qti + c.args.plane) * 64 in
    (c.range_of-range.result.number < 63) × InRange c.range_of-range.result c.args.qi × (c.args.loaded.place + get_or c.args.loaded.indices (k + c.range_of-range.result.number) 0 * 512 + 512 ≤ bits c.args.packet.now) × (c.args.loaded.place + get_or c.args.loaded.indices (k + c.range_of-range.result.number + 1) 0 * 512 + 512 ≤ bits c.args.packet.now) =
    ends c.args.packet.now c.args.loaded c.requires.1.0 c.requires.1.1 c.args.qti c.args.plane c.args.qi c.requires.2 c.requires.3 c.requires.4 c.range_of-range.result c.range_of-range.ensures in
    omega (arith, (facts).0, c.requires.2, c.requires.3)

pub overflow_add-two : goal.overflow_add-two
overflow_add-two c =
    let facts : let k = (3 * c.args.qti + c.args.plane) * 64 in
    (c.range_of-range.result.number < 63) × InRange c.range_of-range.result c.args.qi × (c.args.loaded.place + get_or c.args.loaded.indices (k + c.range_of-range.result.number) 0 * 512 + 512 ≤ bits c.args.packet.now) × (c.args.loaded.place + get_or c.args.loaded.indices (k + c.range_of-range.result.number + 1) 0 * 512 + 512 ≤ bits c.args.packet.now) =
    ends c.args.packet.now c.args.loaded c.requires.1.0 c.requires.1.1 c.args.qti c.args.plane c.args.qi c.requires.2 c.requires.3 c.requires.4 c.range_of-range.result c.range_of-range.ensures in
    omega (arith, (facts).0, c.requires.2, c.requires.3)

pub overflow_add-two-2 : goal.overflow_add-two-2
overflow_add-two-2 c =
    let facts : let k = (3 * c.args.qti + c.args.plane) * 64 in
    (c.range_of-range.result.number < 63) × InRange c.range_of-range.result c.args.qi × (c.args.loaded.place + get_or c.args.loaded.indices (k + c.range_of-range.result.number) 0 * 512 + 512 ≤ bits c.args.packet.now) × (c.args.loaded.place + get_or c.args.loaded.indices (k + c.range_of-range.result.number + 1) 0 * 512 + 512 ≤ bits c.args.packet.now) =
    ends c.args.packet.now c.args.loaded c.requires.1.0 c.requires.1.1 c.args.qti c.args.plane c.args.qi c.requires.2 c.requires.3 c.requires.4 c.range_of-range.result c.range_of-range.ensures in
    omega (arith, (facts).0, c.requires.2, c.requires.3)

pub offset_bounds-loaded-start-2 : goal.offset_bounds-loaded-start-2
offset_bounds-loaded-start-2 c =
    let facts : let k = (3 * c.args.qti + c.args.plane) * 64 in
    (c.range_of-range.result.number < 63) × InRange c.range_of-range.result c.args.qi × (c.args.loaded.place + get_or c.args.loaded.indices (k + c.range_of-range.result.number) 0 * 512 + 512 ≤ bits c.args.packet.now) × (c.args.loaded.place + get_or c.args.loaded.indices (k + c.range_of-range.result.number + 1) 0 * 512 + 512 ≤ bits c.args.packet.now) =
    ends c.args.packet.now c.args.loaded c.requires.1.0 c.requires.1.1 c.args.qti c.args.plane c.args.qi c.requires.2 c.requires.3 c.requires.4 c.range_of-range.result c.range_of-range.ensures in
    omega (arith, (facts).0, c.requires.2, c.requires.3)

pub bounds-loaded-start-2 : goal.bounds-loaded-start-2
bounds-loaded-start-2 c =
    let facts : let k = (3 * c.args.qti + c.args.plane) * 64 in
    (c.range_of-range.result.number < 63) × InRange c.range_of-range.result c.args.qi × (c.args.loaded.place + get_or c.args.loaded.indices (k + c.range_of-range.result.number) 0 * 512 + 512 ≤ bits c.args.packet.now) × (c.args.loaded.place + get_or c.args.loaded.indices (k + c.range_of-range.result.number + 1) 0 * 512 + 512 ≤ bits c.args.packet.now) =
    ends c.args.packet.now c.args.loaded c.requires.1.0 c.requires.1.1 c.args.qti c.args.plane c.args.qi c.requires.2 c.requires.3 c.requires.4 c.range_of-range.result c.range_of-range.ensures in
    omega (arith, (facts).0, c.requires.2, c.requires.3)

pub overflow_add-first : goal.overflow_add-first
overflow_add-first c =
    let facts : let k = (3 * c.args.qti + c.args.plane) * 64 in
    (c.range_of-range.result.number < 63) × InRange c.range_of-range.result c.args.qi × (c.args.loaded.place + get_or c.args.loaded.indices (k + c.range_of-range.result.number) 0 * 512 + 512 ≤ bits c.args.packet.now) × (c.args.loaded.place + get_or c.args.loaded.indices (k + c.range_of-range.result.number + 1) 0 * 512 + 512 ≤ bits c.args.packet.now) =
    ends c.args.packet.now c.args.loaded c.requires.1.0 c.requires.1.1 c.args.qti c.args.plane c.args.qi c.requires.2 c.requires.3 c.requires.4 c.range_of-range.result c.range_of-range.ensures in
    omega (arith, (facts).2, c.requires.0)

pub overflow_add-second : goal.overflow_add-second
overflow_add-second c =
    let facts : let k = (3 * c.args.qti + c.args.plane) * 64 in
    (c.range_of-range.result.number < 63) × InRange c.range_of-range.result c.args.qi × (c.args.loaded.place + get_or c.args.loaded.indices (k + c.range_of-range.result.number) 0 * 512 + 512 ≤ bits c.args.packet.now) × (c.args.loaded.place + get_or c.args.loaded.indices (k + c.range_of-range.result.number + 1) 0 * 512 + 512 ≤ bits c.args.packet.now) =
    ends c.args.packet.now c.args.loaded c.requires.1.0 c.requires.1.1 c.args.qti c.args.plane c.args.qi c.requires.2 c.requires.3 c.requires.4 c.range_of-range.result c.range_of-range.ensures in
    omega (arith, (facts).3, c.requires.0)

pub fill_matrix-requires : goal.fill_matrix-requires
fill_matrix-requires c =
    let facts : let k = (3 * c.args.qti + c.args.plane) * 64 in
    (c.range_of-range.result.number < 63) × InRange c.range_of-range.result c.args.qi × (c.args.loaded.place + get_or c.args.loaded.indices (k + c.range_of-range.result.number) 0 * 512 + 512 ≤ bits c.args.packet.now) × (c.args.loaded.place + get_or c.args.loaded.indices (k + c.range_of-range.result.number + 1) 0 * 512 + 512 ≤ bits c.args.packet.now) =
    ends c.args.packet.now c.args.loaded c.requires.1.0 c.requires.1.1 c.args.qti c.args.plane c.args.qi c.requires.2 c.requires.3 c.requires.4 c.range_of-range.result c.range_of-range.ensures in
    let f = facts in
    (c.requires.0, f.2, f.3, f.1, c.requires.5)

pub returns : goal.returns
returns c = λ q h.
    c.fill_matrix.ensures ∙ matrix_found_law c.args.packet.now c.args.loaded q h c.args.qti c.args.plane c.args.qi c.requires.2 c.requires.3 c.requires.4 c.range_of-range.result c.range_of-range.ensures

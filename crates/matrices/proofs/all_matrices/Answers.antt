use Prim.Native.Nat.{◌+◌, ◌-◌, ◌*◌, ◌/◌, ◌%◌, ◌≤◌, ◌<◌}
use native.Mathlib.Omega.{arith}
use mathlib.Core.Path.{◌≡◌, ◌∙◌}
use lib.ListN.{get_or}
use borrow.Rule.Slice.PartMut.{mid_len}
use Rattle.bitstream.specs.Bits.{bits}
use Rattle.quant_ranges.specs.Ranges.{InRange}
use Rattle.matrices.proofs.Matrices.{sizes_long, enough, ends, matrix_found_law}
use Rattle.matrices.proofs.All.{place_of, loaded_more, loaded_all}
use Rattle.matrices.proofs.all_matrices.Goals as goal

pub range_of-range-requires : goal.range_of-range-requires
range_of-range-requires c =
    let turn : (c.loop-j.j < 18) × (c.loop-j.j % 6 / 3 < 2) × (c.loop-j.j % 6 % 3 < 3) × (get_or c.args.qis (c.loop-j.j / 6) 0 < 64) =
    (omega (arith, c.loop-j-test.true, c.requires.3), omega arith, omega arith, c.requires.2 (c.loop-j.j / 6) (omega (arith, c.loop-j-test.true))) in
    let u = turn in (
      omega (arith, sizes_long c.args.packet.now c.args.loaded c.requires.1.0 c.requires.1.1 (c.loop-j.j % 6 / 3) (c.loop-j.j % 6 % 3) (get_or c.args.qis (c.loop-j.j / 6) 0) u.1 u.2 u.3),
      enough c.args.packet.now c.args.loaded c.requires.1.0 c.requires.1.1 (c.loop-j.j % 6 / 3) (c.loop-j.j % 6 % 3) (get_or c.args.qis (c.loop-j.j / 6) 0) u.1 u.2 u.3,
      omega (arith, u.3),
    )

pub overflow_add-one : goal.overflow_add-one
overflow_add-one c =
    let turn : (c.loop-j.j < 18) × (c.loop-j.j % 6 / 3 < 2) × (c.loop-j.j % 6 % 3 < 3) × (get_or c.args.qis (c.loop-j.j / 6) 0 < 64) =
    (omega (arith, c.loop-j-test.true, c.requires.3), omega arith, omega arith, c.requires.2 (c.loop-j.j / 6) (omega (arith, c.loop-j-test.true))) in
    let facts : let k = (3 * (c.loop-j.j % 6 / 3) + c.loop-j.j % 6 % 3) * 64 in
    (c.range_of-range.result.number < 63) × InRange c.range_of-range.result (get_or c.args.qis (c.loop-j.j / 6) 0) × (c.args.loaded.place + get_or c.args.loaded.indices (k + c.range_of-range.result.number) 0 * 512 + 512 ≤ bits c.args.packet.now) × (c.args.loaded.place + get_or c.args.loaded.indices (k + c.range_of-range.result.number + 1) 0 * 512 + 512 ≤ bits c.args.packet.now) =
    let u = turn in
    ends c.args.packet.now c.args.loaded c.requires.1.0 c.requires.1.1 (c.loop-j.j % 6 / 3) (c.loop-j.j % 6 % 3) (get_or c.args.qis (c.loop-j.j / 6) 0) u.1 u.2 u.3 c.range_of-range.result c.range_of-range.ensures in
    omega (arith, (facts).0)

pub offset_bounds-loaded-start : goal.offset_bounds-loaded-start
offset_bounds-loaded-start c =
    let turn : (c.loop-j.j < 18) × (c.loop-j.j % 6 / 3 < 2) × (c.loop-j.j % 6 % 3 < 3) × (get_or c.args.qis (c.loop-j.j / 6) 0 < 64) =
    (omega (arith, c.loop-j-test.true, c.requires.3), omega arith, omega arith, c.requires.2 (c.loop-j.j / 6) (omega (arith, c.loop-j-test.true))) in
    let facts : let k = (3 * (c.loop-j.j % 6 / 3) + c.loop-j.j % 6 % 3) * 64 in
    (c.range_of-range.result.number < 63) × InRange c.range_of-range.result (get_or c.args.qis (c.loop-j.j / 6) 0) × (c.args.loaded.place + get_or c.args.loaded.indices (k + c.range_of-range.result.number) 0 * 512 + 512 ≤ bits c.args.packet.now) × (c.args.loaded.place + get_or c.args.loaded.indices (k + c.range_of-range.result.number + 1) 0 * 512 + 512 ≤ bits c.args.packet.now) =
    let u = turn in
    ends c.args.packet.now c.args.loaded c.requires.1.0 c.requires.1.1 (c.loop-j.j % 6 / 3) (c.loop-j.j % 6 % 3) (get_or c.args.qis (c.loop-j.j / 6) 0) u.1 u.2 u.3 c.range_of-range.result c.range_of-range.ensures in
    omega (arith, (facts).0)

pub bounds-loaded-start : goal.bounds-loaded-start
bounds-loaded-start c =
    let turn : (c.loop-j.j < 18) × (c.loop-j.j % 6 / 3 < 2) × (c.loop-j.j % 6 % 3 < 3) × (get_or c.args.qis (c.loop-j.j / 6) 0 < 64) =
    (omega (arith, c.loop-j-test.true, c.requires.3), omega arith, omega arith, c.requires.2 (c.loop-j.j / 6) (omega (arith, c.loop-j-test.true))) in
    let facts : let k = (3 * (c.loop-j.j % 6 / 3) + c.loop-j.j % 6 % 3) * 64 in
    (c.range_of-range.result.number < 63) × InRange c.range_of-range.result (get_or c.args.qis (c.loop-j.j / 6) 0) × (c.args.loaded.place + get_or c.args.loaded.indices (k + c.range_of-range.result.number) 0 * 512 + 512 ≤ bits c.args.packet.now) × (c.args.loaded.place + get_or c.args.loaded.indices (k + c.range_of-range.result.number + 1) 0 * 512 + 512 ≤ bits c.args.packet.now) =
    let u = turn in
    ends c.args.packet.now c.args.loaded c.requires.1.0 c.requires.1.1 (c.loop-j.j % 6 / 3) (c.loop-j.j % 6 % 3) (get_or c.args.qis (c.loop-j.j / 6) 0) u.1 u.2 u.3 c.range_of-range.result c.range_of-range.ensures in
    omega (arith, (facts).0)

pub overflow_add-two : goal.overflow_add-two
overflow_add-two c =
    let turn : (c.loop-j.j < 18) × (c.loop-j.j % 6 / 3 < 2) × (c.loop-j.j % 6 % 3 < 3) × (get_or c.args.qis (c.loop-j.j / 6) 0 < 64) =
    (omega (arith, c.loop-j-test.true, c.requires.3), omega arith, omega arith, c.requires.2 (c.loop-j.j / 6) (omega (arith, c.loop-j-test.true))) in
    let facts : let k = (3 * (c.loop-j.j % 6 / 3) + c.loop-j.j % 6 % 3) * 64 in
    (c.range_of-range.result.number < 63) × InRange c.range_of-range.result (get_or c.args.qis (c.loop-j.j / 6) 0) × (c.args.loaded.place + get_or c.args.loaded.indices (k + c.range_of-range.result.number) 0 * 512 + 512 ≤ bits c.args.packet.now) × (c.args.loaded.place + get_or c.args.loaded.indices (k + c.range_of-range.result.number + 1) 0 * 512 + 512 ≤ bits c.args.packet.now) =
    let u = turn in
    ends c.args.packet.now c.args.loaded c.requires.1.0 c.requires.1.1 (c.loop-j.j % 6 / 3) (c.loop-j.j % 6 % 3) (get_or c.args.qis (c.loop-j.j / 6) 0) u.1 u.2 u.3 c.range_of-range.result c.range_of-range.ensures in
    omega (arith, (facts).0)

pub overflow_add-two-in-loop-j : goal.overflow_add-two-in-loop-j
overflow_add-two-in-loop-j c =
    let turn : (c.loop-j.j < 18) × (c.loop-j.j % 6 / 3 < 2) × (c.loop-j.j % 6 % 3 < 3) × (get_or c.args.qis (c.loop-j.j / 6) 0 < 64) =
    (omega (arith, c.loop-j-test.true, c.requires.3), omega arith, omega arith, c.requires.2 (c.loop-j.j / 6) (omega (arith, c.loop-j-test.true))) in
    let facts : let k = (3 * (c.loop-j.j % 6 / 3) + c.loop-j.j % 6 % 3) * 64 in
    (c.range_of-range.result.number < 63) × InRange c.range_of-range.result (get_or c.args.qis (c.loop-j.j / 6) 0) × (c.args.loaded.place + get_or c.args.loaded.indices (k + c.range_of-range.result.number) 0 * 512 + 512 ≤ bits c.args.packet.now) × (c.args.loaded.place + get_or c.args.loaded.indices (k + c.range_of-range.result.number + 1) 0 * 512 + 512 ≤ bits c.args.packet.now) =
    let u = turn in
    ends c.args.packet.now c.args.loaded c.requires.1.0 c.requires.1.1 (c.loop-j.j % 6 / 3) (c.loop-j.j % 6 % 3) (get_or c.args.qis (c.loop-j.j / 6) 0) u.1 u.2 u.3 c.range_of-range.result c.range_of-range.ensures in
    omega (arith, (facts).0)

pub offset_bounds-loaded-start-in-loop-j : goal.offset_bounds-loaded-start-in-loop-j
offset_bounds-loaded-start-in-loop-j c =
    let turn : (c.loop-j.j < 18) × (c.loop-j.j % 6 / 3 < 2) × (c.loop-j.j % 6 % 3 < 3) × (get_or c.args.qis (c.loop-j.j / 6) 0 < 64) =
    (omega (arith, c.loop-j-test.true, c.requires.3), omega arith, omega arith, c.requires.2 (c.loop-j.j / 6) (omega (arith, c.loop-j-test.true))) in
    let facts : let k = (3 * (c.loop-j.j % 6 / 3) + c.loop-j.j % 6 % 3) * 64 in
    (c.range_of-range.result.number < 63) × InRange c.range_of-range.result (get_or c.args.qis (c.loop-j.j / 6) 0) × (c.args.loaded.place + get_or c.args.loaded.indices (k + c.range_of-range.result.number) 0 * 512 + 512 ≤ bits c.args.packet.now) × (c.args.loaded.place + get_or c.args.loaded.indices (k + c.range_of-range.result.number + 1) 0 * 512 + 512 ≤ bits c.args.packet.now) =
    let u = turn in
    ends c.args.packet.now c.args.loaded c.requires.1.0 c.requires.1.1 (c.loop-j.j % 6 / 3) (c.loop-j.j % 6 % 3) (get_or c.args.qis (c.loop-j.j / 6) 0) u.1 u.2 u.3 c.range_of-range.result c.range_of-range.ensures in
    omega (arith, (facts).0)

pub bounds-loaded-start-in-loop-j : goal.bounds-loaded-start-in-loop-j
bounds-loaded-start-in-loop-j c =
    let turn : (c.loop-j.j < 18) × (c.loop-j.j % 6 / 3 < 2) × (c.loop-j.j % 6 % 3 < 3) × (get_or c.args.qis (c.loop-j.j / 6) 0 < 64) =
    (omega (arith, c.loop-j-test.true, c.requires.3), omega arith, omega arith, c.requires.2 (c.loop-j.j / 6) (omega (arith, c.loop-j-test.true))) in
    let facts : let k = (3 * (c.loop-j.j % 6 / 3) + c.loop-j.j % 6 % 3) * 64 in
    (c.range_of-range.result.number < 63) × InRange c.range_of-range.result (get_or c.args.qis (c.loop-j.j / 6) 0) × (c.args.loaded.place + get_or c.args.loaded.indices (k + c.range_of-range.result.number) 0 * 512 + 512 ≤ bits c.args.packet.now) × (c.args.loaded.place + get_or c.args.loaded.indices (k + c.range_of-range.result.number + 1) 0 * 512 + 512 ≤ bits c.args.packet.now) =
    let u = turn in
    ends c.args.packet.now c.args.loaded c.requires.1.0 c.requires.1.1 (c.loop-j.j % 6 / 3) (c.loop-j.j % 6 % 3) (get_or c.args.qis (c.loop-j.j / 6) 0) u.1 u.2 u.3 c.range_of-range.result c.range_of-range.ensures in
    omega (arith, (facts).0)

pub overflow_add-first : goal.overflow_add-first
overflow_add-first c =
    let turn : (c.loop-j.j < 18) × (c.loop-j.j % 6 / 3 < 2) × (c.loop-j.j % 6 % 3 < 3) × (get_or c.args.qis (c.loop-j.j / 6) 0 < 64) =
    (omega (arith, c.loop-j-test.true, c.requires.3), omega arith, omega arith, c.requires.2 (c.loop-j.j / 6) (omega (arith, c.loop-j-test.true))) in
    let facts : let k = (3 * (c.loop-j.j % 6 / 3) + c.loop-j.j % 6 % 3) * 64 in
    (c.range_of-range.result.number < 63) × InRange c.range_of-range.result (get_or c.args.qis (c.loop-j.j / 6) 0) × (c.args.loaded.place + get_or c.args.loaded.indices (k + c.range_of-range.result.number) 0 * 512 + 512 ≤ bits c.args.packet.now) × (c.args.loaded.place + get_or c.args.loaded.indices (k + c.range_of-range.result.number + 1) 0 * 512 + 512 ≤ bits c.args.packet.now) =
    let u = turn in
    ends c.args.packet.now c.args.loaded c.requires.1.0 c.requires.1.1 (c.loop-j.j % 6 / 3) (c.loop-j.j % 6 % 3) (get_or c.args.qis (c.loop-j.j / 6) 0) u.1 u.2 u.3 c.range_of-range.result c.range_of-range.ensures in
    omega (arith, (facts).2, c.requires.0)

pub overflow_add-second : goal.overflow_add-second
overflow_add-second c =
    let turn : (c.loop-j.j < 18) × (c.loop-j.j % 6 / 3 < 2) × (c.loop-j.j % 6 % 3 < 3) × (get_or c.args.qis (c.loop-j.j / 6) 0 < 64) =
    (omega (arith, c.loop-j-test.true, c.requires.3), omega arith, omega arith, c.requires.2 (c.loop-j.j / 6) (omega (arith, c.loop-j-test.true))) in
    let facts : let k = (3 * (c.loop-j.j % 6 / 3) + c.loop-j.j % 6 % 3) * 64 in
    (c.range_of-range.result.number < 63) × InRange c.range_of-range.result (get_or c.args.qis (c.loop-j.j / 6) 0) × (c.args.loaded.place + get_or c.args.loaded.indices (k + c.range_of-range.result.number) 0 * 512 + 512 ≤ bits c.args.packet.now) × (c.args.loaded.place + get_or c.args.loaded.indices (k + c.range_of-range.result.number + 1) 0 * 512 + 512 ≤ bits c.args.packet.now) =
    let u = turn in
    ends c.args.packet.now c.args.loaded c.requires.1.0 c.requires.1.1 (c.loop-j.j % 6 / 3) (c.loop-j.j % 6 % 3) (get_or c.args.qis (c.loop-j.j / 6) 0) u.1 u.2 u.3 c.range_of-range.result c.range_of-range.ensures in
    omega (arith, (facts).3, c.requires.0)

pub fill_matrix-requires : goal.fill_matrix-requires
fill_matrix-requires c =
    let turn : (c.loop-j.j < 18) × (c.loop-j.j % 6 / 3 < 2) × (c.loop-j.j % 6 % 3 < 3) × (get_or c.args.qis (c.loop-j.j / 6) 0 < 64) =
    (omega (arith, c.loop-j-test.true, c.requires.3), omega arith, omega arith, c.requires.2 (c.loop-j.j / 6) (omega (arith, c.loop-j-test.true))) in
    let facts : let k = (3 * (c.loop-j.j % 6 / 3) + c.loop-j.j % 6 % 3) * 64 in
    (c.range_of-range.result.number < 63) × InRange c.range_of-range.result (get_or c.args.qis (c.loop-j.j / 6) 0) × (c.args.loaded.place + get_or c.args.loaded.indices (k + c.range_of-range.result.number) 0 * 512 + 512 ≤ bits c.args.packet.now) × (c.args.loaded.place + get_or c.args.loaded.indices (k + c.range_of-range.result.number + 1) 0 * 512 + 512 ≤ bits c.args.packet.now) =
    let u = turn in
    ends c.args.packet.now c.args.loaded c.requires.1.0 c.requires.1.1 (c.loop-j.j % 6 / 3) (c.loop-j.j % 6 % 3) (get_or c.args.qis (c.loop-j.j / 6) 0) u.1 u.2 u.3 c.range_of-range.result c.range_of-range.ensures in
    let f = facts in
    let few = (turn).0 in
    let at = place_of c.loop-j.j in
    let e : at + 64 - at ≡ 64 = omega arith in
    (c.requires.0, f.2, f.3, f.1, mid_len at (at + 64) c.loop-j.out (omega (arith, few, c.loop-j.invariant.1)) ∙ e)

pub loop-j-preserved : goal.loop-j-preserved
loop-j-preserved c =
    let turn : (c.loop-j.j < 18) × (c.loop-j.j % 6 / 3 < 2) × (c.loop-j.j % 6 % 3 < 3) × (get_or c.args.qis (c.loop-j.j / 6) 0 < 64) =
    (omega (arith, c.loop-j-test.true, c.requires.3), omega arith, omega arith, c.requires.2 (c.loop-j.j / 6) (omega (arith, c.loop-j-test.true))) in
    let u = turn in
    let at = place_of c.loop-j.j in
    let e : at + 64 - at ≡ 64 = omega arith in (
      omega (arith, c.loop-j-test.true),
      c.out-1.given.1 ∙ c.loop-j.invariant.1,
      loaded_more c.args.packet.now c.args.loaded c.args.qis c.loop-j.j (at + 64 - at) c.loop-j.out c.fill_matrix.new.out u.0 e c.loop-j.invariant.1 (c.out-1.given.0 ∙ mid_len at (at + 64) c.loop-j.out (omega (arith, u.0, c.loop-j.invariant.1)) ∙ e) c.loop-j.invariant.2
          (λ q h. c.fill_matrix.ensures ∙ matrix_found_law c.args.packet.now c.args.loaded q h (c.loop-j.j % 6 / 3) (c.loop-j.j % 6 % 3) (get_or c.args.qis (c.loop-j.j / 6) 0) u.1 u.2 u.3 c.range_of-range.result c.range_of-range.ensures),
    )

pub returns : goal.returns
returns c = loaded_all c.args.packet.now c.args.loaded c.args.qis c.args.count c.loop-j.j c.loop-j.out c.loop-j-test.false c.loop-j.invariant.2

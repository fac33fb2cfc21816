use Prim.Native.Nat.{ℕ, ◌+◌, ◌<◌}
use native.Mathlib.Omega.{arith}
use mathlib.Core.Path.{◌≡◌, sym}
use lib.ListN.{get_or, take, drop}
use Rattle.quant_ranges.proofs.Ranges.{Walk, walk_more, walk_done, part_long, part_at}
use Rattle.quant_ranges.proofs.range_of.Goals as goal

pub overflow_add-number : goal.overflow_add-number
overflow_add-number c =
    let more : (c.loop-start.number + 1 < 64) × ((next : ℕ) → next ≡ get_or (take 64 (drop c.args.first c.args.sizes.now)) (c.loop-start.number + 1) 0 → Walk (take 64 (drop c.args.first c.args.sizes.now)) c.args.qi (c.loop-start.number + 1) (c.loop-start.start + c.loop-start.size) next) =
    let w = walk_more (take 64 (drop c.args.first c.args.sizes.now)) c.args.qi c.loop-start.number c.loop-start.start c.loop-start.size c.loop-start.invariant.2 c.loop-start-test.true c.requires.1 in
    (omega (arith, w.0, part_long c.args.sizes.now c.args.first c.requires.0), w.1) in
    omega (arith, (more).0)

pub overflow_add-size : goal.overflow_add-size
overflow_add-size c =
    let more : (c.loop-start.number + 1 < 64) × ((next : ℕ) → next ≡ get_or (take 64 (drop c.args.first c.args.sizes.now)) (c.loop-start.number + 1) 0 → Walk (take 64 (drop c.args.first c.args.sizes.now)) c.args.qi (c.loop-start.number + 1) (c.loop-start.start + c.loop-start.size) next) =
    let w = walk_more (take 64 (drop c.args.first c.args.sizes.now)) c.args.qi c.loop-start.number c.loop-start.start c.loop-start.size c.loop-start.invariant.2 c.loop-start-test.true c.requires.1 in
    (omega (arith, w.0, part_long c.args.sizes.now c.args.first c.requires.0), w.1) in
    omega (arith, (more).0, c.requires.0, c.well_formed.0.0)

pub offset_bounds-sizes-first-in-loop-start : goal.offset_bounds-sizes-first-in-loop-start
offset_bounds-sizes-first-in-loop-start c =
    let more : (c.loop-start.number + 1 < 64) × ((next : ℕ) → next ≡ get_or (take 64 (drop c.args.first c.args.sizes.now)) (c.loop-start.number + 1) 0 → Walk (take 64 (drop c.args.first c.args.sizes.now)) c.args.qi (c.loop-start.number + 1) (c.loop-start.start + c.loop-start.size) next) =
    let w = walk_more (take 64 (drop c.args.first c.args.sizes.now)) c.args.qi c.loop-start.number c.loop-start.start c.loop-start.size c.loop-start.invariant.2 c.loop-start-test.true c.requires.1 in
    (omega (arith, w.0, part_long c.args.sizes.now c.args.first c.requires.0), w.1) in
    omega (arith, (more).0, c.requires.0, c.well_formed.0.1)

pub bounds-sizes-first-in-loop-start : goal.bounds-sizes-first-in-loop-start
bounds-sizes-first-in-loop-start c =
    let more : (c.loop-start.number + 1 < 64) × ((next : ℕ) → next ≡ get_or (take 64 (drop c.args.first c.args.sizes.now)) (c.loop-start.number + 1) 0 → Walk (take 64 (drop c.args.first c.args.sizes.now)) c.args.qi (c.loop-start.number + 1) (c.loop-start.start + c.loop-start.size) next) =
    let w = walk_more (take 64 (drop c.args.first c.args.sizes.now)) c.args.qi c.loop-start.number c.loop-start.start c.loop-start.size c.loop-start.invariant.2 c.loop-start-test.true c.requires.1 in
    (omega (arith, w.0, part_long c.args.sizes.now c.args.first c.requires.0), w.1) in
    omega (arith, (more).0, c.requires.0)

pub loop-start-smaller : goal.loop-start-smaller
loop-start-smaller c =
    let more : (c.loop-start.number + 1 < 64) × ((next : ℕ) → next ≡ get_or (take 64 (drop c.args.first c.args.sizes.now)) (c.loop-start.number + 1) 0 → Walk (take 64 (drop c.args.first c.args.sizes.now)) c.args.qi (c.loop-start.number + 1) (c.loop-start.start + c.loop-start.size) next) =
    let w = walk_more (take 64 (drop c.args.first c.args.sizes.now)) c.args.qi c.loop-start.number c.loop-start.start c.loop-start.size c.loop-start.invariant.2 c.loop-start-test.true c.requires.1 in
    (omega (arith, w.0, part_long c.args.sizes.now c.args.first c.requires.0), w.1) in
    omega (arith, (more).0)

pub loop-start-preserved : goal.loop-start-preserved
loop-start-preserved c =
    let more : (c.loop-start.number + 1 < 64) × ((next : ℕ) → next ≡ get_or (take 64 (drop c.args.first c.args.sizes.now)) (c.loop-start.number + 1) 0 → Walk (take 64 (drop c.args.first c.args.sizes.now)) c.args.qi (c.loop-start.number + 1) (c.loop-start.start + c.loop-start.size) next) =
    let w = walk_more (take 64 (drop c.args.first c.args.sizes.now)) c.args.qi c.loop-start.number c.loop-start.start c.loop-start.size c.loop-start.invariant.2 c.loop-start-test.true c.requires.1 in
    (omega (arith, w.0, part_long c.args.sizes.now c.args.first c.requires.0), w.1) in
    let n = c.loop-start.number + 1 in (
      omega (arith, c.loop-start-test.true, c.requires.2),
      (c.shared_slice_known-in-loop-start-1.given (c.args.first + n)).fits,
      (more).1 (get_or c.args.sizes.now (c.args.first + n) 0) (sym (part_at c.args.sizes.now c.args.first c.requires.0 n (more).0)),
    )

pub returns : goal.returns
returns c = walk_done (take 64 (drop c.args.first c.args.sizes.now)) c.args.qi c.loop-start.number c.loop-start.start c.loop-start.size c.loop-start.invariant.2 c.loop-start-test.false

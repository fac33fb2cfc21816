use Prim.Native.Nat.{ℕ, ◌+◌, ◌-◌, ◌*◌, ◌≤◌, ◌<◌}
use native.Mathlib.Omega.{arith}
use mathlib.Core.Path.{◌≡◌, refl, sym, ap, ◌∙◌}
use mathlib.Core.List.{List, ◌++◌}
use lib.ListN.{length, take, drop}
use Rattle.geometry.specs.Order.{in_turn}
use Rattle.output.specs.Output.{part}
use Rattle.output.proofs.Splices.{part_length}
use Rattle.rows.specs.Rows.{turned}
use native.Mathlib.Nat.{suc-mul}
use lib.Seq.{take_all}
use Rattle.rows.proofs.Facts.{row_left, row_fits, row_begin, taken_more, in_turn_more, all_rows}
use Rattle.rows.proofs.turn_rows.Goals as goal

pub loop-from-init : goal.loop-from-init
unfolding in_turn
loop-from-init c = (0, omega arith, omega arith, omega (arith, c.requires.0), c.requires.1, refl)

pub loop-from-preserved : goal.loop-from-preserved
loop-from-preserved c =
    let more : c.loop-from.invariant.0 < c.args.rows =
    row_left c.loop-from.invariant.0 c.args.rows c.args.row c.loop-from.at c.loop-from.from c.loop-from-test.true c.loop-from.invariant.2 c.loop-from.invariant.3 in
    let fits : c.loop-from.at + c.args.row ≤ c.args.rows * c.args.row =
    omega (arith, row_fits c.loop-from.invariant.0 c.args.rows c.args.row (more), c.loop-from.invariant.2) in
    let left = more in
    let h = fits in
    let there : c.loop-from.from - (c.loop-from.from - c.args.row) ≡ c.args.row = omega (arith, h, c.loop-from.invariant.3) in
    let begin = row_begin c.loop-from.invariant.0 c.args.rows c.args.row c.loop-from.at c.loop-from.from left c.loop-from.invariant.2 c.loop-from.invariant.3 in
    let is : c.copy.new.dst ≡ part c.args.src.now ((c.args.rows - 1 - c.loop-from.invariant.0) * c.args.row) c.args.row =
    c.copy.ensures ∙ ap (λ (n : ℕ). take n (drop (c.loop-from.from - c.args.row) c.args.src.now)) there
    ∙ ap (λ (n : ℕ). part c.args.src.now n c.args.row) begin in
    let size : length c.copy.new.dst ≡ c.args.row = ap (λ (m : List ℕ). length m) is ∙ part_length c.args.src.now ((c.args.rows - 1 - c.loop-from.invariant.0) * c.args.row) c.args.row (omega (arith, begin, h, c.loop-from.invariant.3, c.requires.0)) in (
      c.loop-from.invariant.0 + 1,
      omega (arith, left),
      omega (arith, c.loop-from.invariant.2, suc-mul c.loop-from.invariant.0 c.args.row),
      omega (arith, h, c.loop-from.invariant.3),
      c.dst-1.given.1 ∙ c.loop-from.invariant.4,
      taken_more c.loop-from.at c.args.row c.loop-from.dst c.copy.new.dst (omega (arith, h, c.loop-from.invariant.4)) size ∙ (λ i. c.loop-from.invariant.5 i ++ is i) ∙ sym (in_turn_more (λ i. part c.args.src.now ((c.args.rows - 1 - i) * c.args.row) c.args.row) c.loop-from.invariant.0),
    )

pub returns : goal.returns
unfolding turned
returns c = let done : c.loop-from.at ≡ c.args.rows * c.args.row = omega (arith, c.loop-from.invariant.3, c.loop-from-test.false) in
    sym (take_all c.loop-from.at c.loop-from.dst (omega (arith, done, c.loop-from.invariant.4))) ∙ c.loop-from.invariant.5
    ∙ all_rows (λ i. (c.args.rows - 1 - i) * c.args.row) c.args.src.now c.loop-from.invariant.0 c.args.rows c.args.row (omega (arith, done, c.loop-from.invariant.2))

use Prim.Native.Nat.{ℕ, ◌+◌, ◌-◌, ◌*◌, ◌≤◌, ◌<◌}
use native.Mathlib.Omega.{arith}
use native.Mathlib.Nat.{suc-mul}
use mathlib.Core.Path.{◌≡◌, refl, sym, ap, ◌∙◌}
use mathlib.Core.List.{List}
use lib.ListN.{take, drop}
use Rattle.geometry.specs.Order.{in_turn}
use Rattle.output.specs.Output.{part}
use Rattle.rows.specs.Rows.{turned}
use Rattle.rows.proofs.Facts.{row_left, row_fits, row_begin, in_turn_more, all_rows}
use Rattle.stream_check.specs.Compared.{onward}
use Rattle.stream_check.proofs.Onward.{onward_none, onward_parts}
use Rattle.stream_check.proofs.compare_rows.Goals as goal

pub loop-from-init : goal.loop-from-init
unfolding in_turn
loop-from-init c = (0, omega arith, omega (arith, c.requires.0), c.requires.1, onward_none c.args.c c.args.file.now)

pub loop-from-preserved : goal.loop-from-preserved
loop-from-preserved c =
    let more : c.loop-from.invariant.0 < c.args.rows =
    row_left c.loop-from.invariant.0 c.args.rows c.args.row (c.loop-from.invariant.0 * c.args.row) c.loop-from.from c.loop-from-test.true refl c.loop-from.invariant.2 in
    let fits : c.args.row ≤ c.loop-from.from =
    omega (arith, row_fits c.loop-from.invariant.0 c.args.rows c.args.row (more), c.loop-from.invariant.2) in
    let left = more in
    let h = fits in
    let there : c.loop-from.from - (c.loop-from.from - c.args.row) ≡ c.args.row = omega (arith, h, c.loop-from.invariant.2) in
    let begin = row_begin c.loop-from.invariant.0 c.args.rows c.args.row (c.loop-from.invariant.0 * c.args.row) c.loop-from.from left refl c.loop-from.invariant.2 in
    let is : take (c.loop-from.from - (c.loop-from.from - c.args.row)) (drop (c.loop-from.from - c.args.row) c.args.src.now) ≡ part c.args.src.now ((c.args.rows - 1 - c.loop-from.invariant.0) * c.args.row) c.args.row =
    ap (λ (n : ℕ). take n (drop (c.loop-from.from - c.args.row) c.args.src.now)) there ∙ ap (λ (n : ℕ). part c.args.src.now n c.args.row) begin in (
      c.loop-from.invariant.0 + 1,
      omega (arith, left),
      omega (arith, h, c.loop-from.invariant.2, suc-mul c.loop-from.invariant.0 c.args.row),
      c.compare-compared.ensures.1,
      c.compare-compared.ensures.0 ∙ (λ i. onward (c.loop-from.invariant.4 i) (is i) c.args.file.now) ∙ onward_parts c.args.c (in_turn (λ i. part c.args.src.now ((c.args.rows - 1 - i) * c.args.row) c.args.row) c.loop-from.invariant.0) (part c.args.src.now ((c.args.rows - 1 - c.loop-from.invariant.0) * c.args.row) c.args.row) c.args.file.now
          ∙ ap (λ (t : List ℕ). onward c.args.c t c.args.file.now) (sym (in_turn_more (λ i. part c.args.src.now ((c.args.rows - 1 - i) * c.args.row) c.args.row) c.loop-from.invariant.0)),
    )

pub returns : goal.returns
unfolding turned
returns c = let done : c.loop-from.invariant.0 * c.args.row ≡ c.args.rows * c.args.row = omega (arith, c.loop-from.invariant.2, c.loop-from-test.false) in (
  c.loop-from.invariant.4 ∙ ap (λ (t : List ℕ). onward c.args.c t c.args.file.now) (all_rows (λ i. (c.args.rows - 1 - i) * c.args.row) c.args.src.now c.loop-from.invariant.0 c.args.rows c.args.row done),
  c.loop-from.invariant.3,
)

use Prim.Native.Nat.{ℕ, ◌+◌, ◌*◌}
use native.Mathlib.Omega.{arith}
use mathlib.Core.Path.{◌≡◌, sym, ap, ◌∙◌}
use native.Mathlib.Nat.{zero-mul, suc-mul}
use native.Mathlib.Numerals.{add-one}
use mathlib.Core.List.{List}
use lib.ListN.{drop}
use Rattle.output.specs.Output.{part}
use Rattle.text.specs.Same.{same}
use Rattle.frame_marks.specs.Marks.{frame_line}
use Rattle.frame_marks.proofs.Laws.{marked_none, marked_not, marked_more, part_behind}
use Rattle.frame_marks.proofs.all_marked.Goals as goal

pub loop-k-init : goal.loop-k-init
loop-k-init c = (omega arith, omega (arith, zero-mul (6 + c.args.size)), marked_none (6 + c.args.size) (drop c.args.at c.args.stream.now))

pub returns-then-not-line_at : goal.returns-then-not-line_at
returns-then-not-line_at c = sym (marked_not (6 + c.args.size) (drop c.args.at c.args.stream.now) c.args.count c.loop-k.k c.loop-k-test.true
    (ap (λ (x : List ℕ). same x frame_line) (part_behind c.args.stream.now c.args.at (c.loop-k.k * (6 + c.args.size)) 6)
    ∙ ap (λ (m : ℕ). same (part c.args.stream.now m 6) frame_line) (sym c.loop-k.invariant.1) ∙ sym c.line_at.ensures ∙ c.if-not-line_at.true))

pub loop-k-preserved : goal.loop-k-preserved
loop-k-preserved c = let w = 6 + c.args.size in
    let s : (c.loop-k.k + 1) * w ≡ c.loop-k.k * w + w = ap (λ (m : ℕ). m * w) (add-one c.loop-k.k) ∙ suc-mul c.loop-k.k w in (
      omega arith,
      omega (arith, c.loop-k.invariant.1, s),
      marked_more w (drop c.args.at c.args.stream.now) c.loop-k.k c.loop-k.invariant.2
          (ap (λ (x : List ℕ). same x frame_line) (part_behind c.args.stream.now c.args.at (c.loop-k.k * w) 6)
          ∙ ap (λ (m : ℕ). same (part c.args.stream.now m 6) frame_line) (sym c.loop-k.invariant.1) ∙ sym c.line_at.ensures ∙ c.if-not-line_at.false),
    )

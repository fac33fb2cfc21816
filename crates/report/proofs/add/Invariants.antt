-- `report::add` meets its contract. Assumes nothing.
use Prim.Native.Nat.{ℕ, ◌-◌, ◌≤◌}
use mathlib.Core.Path.{◌≡◌}
use mathlib.Core.List.{List}
use lib.ListN.{length}
use Rattle.report.specs.Report.{report_size}
use Rattle.report.specs.Running.{Runs}
use Rattle.report.proofs.Steps.{Midway}
use Rattle.report.proofs.add.Given as goal

abbrev pub invariant-loop-i : goal.invariant-loop-i
invariant-loop-i l =
    (l.i ≤ 34) × (length l.numbers ≡ report_size)
    × ((sums : List ℕ) → Runs (record { numbers = l.initial.numbers; passed = l.initial.passed }) sums → Midway sums l.more l.numbers l.passed l.i)

abbrev pub decreases-loop-i : goal.decreases-loop-i
decreases-loop-i l = 34 - l.i

-- A report that is being added to: its numbers, or that a sum has passed 64 bits.
use Rattle.std.specs.Prelude.{ℕ, ◌+◌, ◌^◌, ◌≡◌, true, false, List, ltb, length}
use Rattle.bitstream.specs.Reading.{choose}
use Rattle.bitstream.specs.Numbers.{past_count}
use Rattle.report.specs.declared.Running.{Running}
use Rattle.report.specs.declared.Sum.{Sum}
use Rattle.report.specs.Report.{report_size, fits}

-- "a sum past 64 bits"
abbrev pub sum_of : ℕ → ℕ → Sum
sum_of a b = choose (ltb (a + b) (2 ^ 64)) (record { is = a + b; past = false }) (record { is = a; past = true })

-- the numbers of the report are l, over whole numbers: they are at hand, or one of them has passed 64 bits
pub record Runs (r : Running) (l : List ℕ) : Type 0 where
  pub long : length l ≡ report_size
  pub kept : r.passed ≡ false → (r.numbers ≡ l) × (fits l ≡ true)
  pub past : r.passed ≡ true → fits l ≡ false

-- what a call answers, and the report afterwards: 0 and the sums; or 15, "and leaves the report as it was"
abbrev pub sum_number : List ℕ → ℕ
sum_number l = choose (fits l) 0 past_count

abbrev pub report_after : (l report : List ℕ) → List ℕ
report_after l report = choose (fits l) l report

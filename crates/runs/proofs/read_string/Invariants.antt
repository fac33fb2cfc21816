-- `runs::read_string` meets its contract. The invariant: the string from the start is what the loop still has to send, after what is filled. Assumes nothing.
use Prim.Native.Nat.{ℕ, ◌+◌, ◌-◌, ◌≤◌, ◌<◌}
use native.Mathlib.Omega.{arith}
use mathlib.Core.Path.{◌≡◌, refl, sym, ap, ◌∙◌}
use mathlib.Core.List.{List}
use lib.ListN.{length}
use Rattle.bitstream.specs.Reading.{got}
use Rattle.bitstream.proofs.Fields.{read_got, read_refused}
use Rattle.runs.specs.Runs.{next_bit, run, fresh}
use Rattle.runs.proofs.Facts.{bit_most, run_some, Goes, goes_start, goes_done, goes_bit, goes_end, goes_past, goes_run}
use Rattle.bitstream.proofs.Ends.{on_list, on_refusal}
use borrow.Author.Rules.{rules}
use Rattle.runs.proofs.read_string.Given as goal

abbrev pub invariant-loop-filled : goal.invariant-loop-filled
invariant-loop-filled l = (length l.out ≡ length l.initial.out) × (l.n ≡ length l.out) × (l.filled ≤ l.n) × (l.value ≤ 1) × Goes l.code l.packet l.at l.n l.out l.filled l.value l.fresh l.place

abbrev pub decreases-loop-filled : goal.decreases-loop-filled
decreases-loop-filled l = l.n - l.filled

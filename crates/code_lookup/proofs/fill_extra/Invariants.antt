-- `code_lookup::fill_extra` meets its contract. Assumes nothing.
use Prim.Native.Nat.{ℕ, ◌+◌, ◌-◌, ◌/◌, ◌^◌, ◌≤◌, ◌<◌}
use mathlib.Core.Path.{◌≡◌}
use mathlib.Core.List.{List}
use lib.ListN.{length, get_or}
use Rattle.code_lookup.proofs.fill_extra.Given as goal

-- the entry i
abbrev entry : List ℕ → ℕ → ℕ → ℕ → ℕ → ℕ
entry complete from shift bits i = get_or complete (from + i / 2 ^ shift) 0 + bits

abbrev pub invariant-loop-i : goal.invariant-loop-i
invariant-loop-i l = (l.i ≤ length l.initial.lookup) × (length l.lookup ≡ length l.initial.lookup) × ((j : ℕ) → j < l.i → get_or l.lookup j 0 ≡ entry l.complete l.from l.shift l.bits j)

abbrev pub decreases-loop-i : goal.decreases-loop-i
decreases-loop-i l = length l.initial.lookup - l.i

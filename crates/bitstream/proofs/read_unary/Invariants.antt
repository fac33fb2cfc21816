-- `bitstream::read_unary` meets its contract. The invariant: the number from the start is that of what is left. Assumes nothing.
use Prim.Native.Nat.{ℕ, ◌+◌, ◌-◌, ◌≤◌, ◌<◌}
use native.Mathlib.Omega.{arith}
use mathlib.Core.Path.{◌≡◌, sym, ap, ◌∙◌}
use Rattle.bitstream.specs.Answer.{as_field}
use Rattle.bitstream.proofs.Fields.{read_got, read_refused}
use Rattle.bitstream.specs.Reading.{got, field, unary}
use Rattle.bitstream.proofs.Unary.{unary_full, unary_end, unary_stop, unary_on}
use borrow.Author.Rules.{rules}
use Rattle.bitstream.proofs.read_unary.Given as goal

abbrev pub invariant-loop-r : goal.invariant-loop-r
invariant-loop-r l = (l.r ≤ l.ones) × (unary l.ones 0 l.packet l.at ≡ unary (l.ones - l.r) l.r l.packet l.place)

abbrev pub decreases-loop-r : goal.decreases-loop-r
decreases-loop-r l = l.ones - l.r

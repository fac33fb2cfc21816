-- `bitstream::field_at` meets its contract: the field is a part of the number of whole bytes. Assumes nothing.
use Prim.Native.Nat.{ℕ, ◌+◌, ◌-◌, ◌*◌, ◌/◌, ◌%◌, ◌^◌, ◌≤◌, ◌<◌}
use native.Mathlib.Omega.{arith}
use mathlib.Core.Path.{◌≡◌, refl, sym, ap, ◌∙◌}
use mathlib.Core.List.{List}
use lib.ListN.{length}
use Rattle.bitstream.specs.Bits.{bits, number}
use Rattle.bitstream.specs.Reading.{got, refused, field}
use Rattle.bitstream.specs.Answer.{as_field}
use Rattle.bitstream.specs.declared.Field.TheVariants.{Got}
use Rattle.bitstream.proofs.Fields.{field_got, field_end}
use Rattle.bitstream.proofs.Bytes.{one_shifted_pos, lowest_fit, field_of_eight, field_of_own}
use borrow.Author.Rules.{rules}
use Rattle.bitstream.proofs.field_at.Goals as goal

-- the answer with the number that stands there
answer : (p : List ℕ) (i n : ℕ) {v : ℕ} → i + n ≤ bits p → v ≡ number p i n → Got v (i + n) ≡ as_field (field n p i)
answer p i n h e = rw (field_got n p i h, e)

pub returns-then-total-at : goal.returns-then-total-at
returns-then-total-at c = ap as_field (sym (field_end _ _ _ (omega arith)))

pub overflow_cast-value : goal.overflow_cast-value
overflow_cast-value c = record { fits = lowest_fit _ _ (omega arith) }

pub returns-then-at-total : goal.returns-then-at-total
returns-then-at-total c = answer _ _ _ (omega arith) (rw c.bytes_from-halved.ensures (field_of_eight _ _ _ (omega arith)))

pub returns-then-total-end : goal.returns-then-total-end
returns-then-total-end c = ap as_field (sym (field_end _ _ _ (omega arith)))

pub returns : goal.returns
returns c = answer _ _ _ (omega arith) (rw c.bytes_from-own.ensures (field_of_own _ _ _ (omega arith)))

-- `setup::setup` meets its contract. Assumes nothing.
use Prim.Native.Nat.{ℕ, ◌≤◌, ◌^◌}
use native.Mathlib.Omega.{arith}
use mathlib.Core.Path.{ap, ◌∙◌, subst⁻¹}
use mathlib.Core.List.{List}
use lib.ListN.{length}
use Rattle.bitstream.proofs.Spends.{readable_short}
use Rattle.bitstream.specs.Answer.{as_end}
use Rattle.setup.specs.Header.{setup_header}
use Rattle.setup.proofs.Calls.{whole_read, whole_refused, header_end, call_length, call_refused, call_accepted}
use Rattle.bitstream.proofs.Clauses.{two}
use Rattle.setup.proofs.setup.Goals as goal

pub scan-answer-requires : goal.scan-answer-requires
scan-answer-requires c = subst⁻¹ (λ (l : List ℕ). length l ≤ 2 ^ 58) c.readable.ensures (readable_short c.args.packet.now)

pub keep-requires : goal.keep-requires
keep-requires c = let e = c.scan-answer.ensures ∙ ap (λ (x : List ℕ). as_end (setup_header x 0)) c.readable.ensures in
    (header_end c.args.packet.now (whole_read c.args.packet.now e c.in-At.is).1, omega (arith, c.if-table-ne-TABLE_BYTES.false))

pub returns-in-Refused : goal.returns-in-Refused
returns-in-Refused c = let e = c.scan-answer.ensures ∙ ap (λ (x : List ℕ). as_end (setup_header x 0)) c.readable.ensures in two (λ a b. record { value = a; table_after = b }) (call_refused c.args.table.now c.args.packet.now c.if-table-ne-TABLE_BYTES.false _ (whole_refused c.args.packet.now e c.in-Refused.is) c.clear.ensures)

pub returns-in-At : goal.returns-in-At
returns-in-At c = let e = c.scan-answer.ensures ∙ ap (λ (x : List ℕ). as_end (setup_header x 0)) c.readable.ensures in two (λ a b. record { value = a; table_after = b }) (call_accepted c.args.table.now c.args.packet.now c.if-table-ne-TABLE_BYTES.false _ (whole_read c.args.packet.now e c.in-At.is).1 c.keep.ensures)

pub returns-then-table-ne-TABLE_BYTES : goal.returns-then-table-ne-TABLE_BYTES
returns-then-table-ne-TABLE_BYTES c = two (λ a b. record { value = a; table_after = b }) (call_length c.args.table.now c.args.packet.now c.if-table-ne-TABLE_BYTES.true)

-- `table_queries::matrix` meets its contract. Assumes nothing.
use native.Mathlib.Omega.{arith}
use Rattle.setup.proofs.Held.{held_parameters, genuine_holds}
use Rattle.table_queries.proofs.SetupLaws.{matrix_1, matrix_8, matrix_is, matrix_absent, has_matrix_law, answered, answered_1}
use Rattle.bitstream.proofs.Clauses.{two}
use Rattle.table_queries.proofs.matrix.Goals as goal

pub returns-then-out-ne64 : goal.returns-then-out-ne64
returns-then-out-ne64 c = two (λ a b. record { value = a; out_after = b }) (answered_1 c.args.out.now c.args.table.now c.args.qti c.args.plane c.args.qi c.if-out-ne64.true)

pub matrix-requires : goal.matrix-requires
matrix-requires c = let k = has_matrix_law c.args.qti c.args.plane c.args.qi c.if-qti-plane.true in
    let h = genuine_holds c.args.table.now c.load_table-answer.ensures c.in-At.is in
    (omega (arith, c.if-table-ne-TABLE_BYTES.false), (_, held_parameters c.args.table.now _ h), k.0, k.1, k.2, c.if-out-ne64.false)

pub returns-then-qti-plane : goal.returns-then-qti-plane
returns-then-qti-plane c = two (λ a b. record { value = a; out_after = b }) (answered c.args.out.now c.args.table.now c.args.qti c.args.plane c.args.qi c.if-out-ne64.false
    (matrix_is c.args.table.now c.load_table-answer.ensures c.in-At.is c.args.qti c.args.plane c.args.qi _ c.if-table-ne-TABLE_BYTES.false c.if-qti-plane.true c.matrix.ensures))

pub returns-in-Refused : goal.returns-in-Refused
returns-in-Refused c = two (λ a b. record { value = a; out_after = b }) (answered c.args.out.now c.args.table.now c.args.qti c.args.plane c.args.qi c.if-out-ne64.false (matrix_8 c.args.table.now c.args.qti c.args.plane c.args.qi c.if-table-ne-TABLE_BYTES.false c.load_table-answer.ensures c.in-Refused.is))

pub returns-else-qti-plane : goal.returns-else-qti-plane
returns-else-qti-plane c = two (λ a b. record { value = a; out_after = b }) (answered c.args.out.now c.args.table.now c.args.qti c.args.plane c.args.qi c.if-out-ne64.false (matrix_absent c.args.table.now c.load_table-answer.ensures c.in-At.is c.args.qti c.args.plane c.args.qi c.if-table-ne-TABLE_BYTES.false c.if-qti-plane.false))

pub returns-then-table-ne-TABLE_BYTES : goal.returns-then-table-ne-TABLE_BYTES
returns-then-table-ne-TABLE_BYTES c = two (λ a b. record { value = a; out_after = b }) (answered c.args.out.now c.args.table.now c.args.qti c.args.plane c.args.qi c.if-out-ne64.false (matrix_1 c.args.table.now c.args.qti c.args.plane c.args.qi c.if-table-ne-TABLE_BYTES.true))

-- `theora_c::wedgepetal_matrix` meets its contract. Assumes nothing.
use borrow.Author.Rules.{rules}
use borrow.Author.Tests.{ne_eqb}
use mathlib.Core.Path.{refl}
use Rattle.theora_c.specs.Face.{matrix_call}
use Rattle.theora_c.proofs.Calls.{matrix_made}
use Rattle.theora_c.proofs.wedgepetal_matrix.Goals as goal

pub returns-then-matrix-eq64 : goal.returns-then-matrix-eq64
returns-then-matrix-eq64 c = matrix_made c.args.table.now _ _ c.args.matrix.now c.args.qti c.args.plane c.args.qi refl (c.matrix-answer.ensures.value, c.matrix-answer.ensures.out_after) c.if-matrix-eq64.true c.return_matrix.ensures

pub returns : goal.returns
unfolding matrix_call
returns c = rw (ne_eqb _ _ c.if-matrix-eq64.false)

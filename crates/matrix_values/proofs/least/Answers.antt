-- `matrix_values::least` meets its contract. Assumes nothing.
use native.Mathlib.Omega.{arith}
use Rattle.matrix_values.proofs.Values.{least_intra_dc, least_inter_dc, least_intra_ac, least_inter_ac}
use Rattle.matrix_values.proofs.least.Goals as goal

pub returns-then-qti-eq0 : goal.returns-then-qti-eq0
returns-then-qti-eq0 c = (least_intra_dc c.args.qti c.args.c c.if-c-eq0.true c.if-qti-eq0.true, omega arith)

pub returns-then-c-eq0 : goal.returns-then-c-eq0
returns-then-c-eq0 c = (least_inter_dc c.args.qti c.args.c c.if-c-eq0.true c.if-qti-eq0.false, omega arith)

pub returns-then-qti-eq0-2 : goal.returns-then-qti-eq0-2
returns-then-qti-eq0-2 c = (least_intra_ac c.args.qti c.args.c c.if-c-eq0.false c.if-qti-eq0-2.true, omega arith)

pub returns : goal.returns
returns c = (least_inter_ac c.args.qti c.args.c c.if-c-eq0.false c.if-qti-eq0-2.false, omega arith)

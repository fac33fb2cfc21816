-- `motion_reader::luma_vector` meets its contract. Assumes nothing.
use native.Mathlib.Omega.{arith}
use Rattle.motion_reader.proofs.Motions.{luma_a, luma_b, luma_c, luma_d}
use Rattle.motion_reader.proofs.luma_vector.Goals as goal

pub returns-then-j-eq0 : goal.returns-then-j-eq0
returns-then-j-eq0 c = luma_a c.args.l c.args.u c.args.j c.if-j-eq0.true

pub returns-then-j-eq1 : goal.returns-then-j-eq1
returns-then-j-eq1 c = luma_b c.args.l c.args.u c.args.j c.if-j-eq1.true

pub returns-then-j-eq2 : goal.returns-then-j-eq2
returns-then-j-eq2 c = luma_c c.args.l c.args.u c.args.j c.if-j-eq2.true

pub returns : goal.returns
returns c = luma_d c.args.l c.args.u c.args.j (omega (arith, c.requires, c.if-j-eq0.false, c.if-j-eq1.false, c.if-j-eq2.false))

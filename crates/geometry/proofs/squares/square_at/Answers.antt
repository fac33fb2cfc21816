-- `geometry::squares::square_at` meets its contract. Assumes nothing.
use Rattle.std.proofs.Common.{arith}
use Rattle.geometry.proofs.Spots.{low, left_by}
use Rattle.geometry.proofs.squares.square_at.Goals as goal

pub overflow_sub-h : goal.overflow_sub-h
overflow_sub-h c = omega (arith, low 4 c.args.w c.args.h c.args.i (omega arith) c.requires.0)

pub nonzero_div-a : goal.nonzero_div-a
nonzero_div-a c = omega (arith, left_by 4 c.args.w c.args.h c.args.i (omega arith) c.requires.0 c.min-v.result c.min-v.ensures)

pub overflow_sub-w : goal.overflow_sub-w
overflow_sub-w c = omega (arith, left_by 4 c.args.w c.args.h c.args.i (omega arith) c.requires.0 c.min-v.result c.min-v.ensures)

pub nonzero_rem-result : goal.nonzero_rem-result
nonzero_rem-result c = omega (arith, left_by 4 c.args.w c.args.h c.args.i (omega arith) c.requires.0 c.min-v.result c.min-v.ensures)

use Rattle.std.proofs.Common.{◌≡◌, ◌+◌, ◌*◌, replicate, refl, arith}
use Rattle.prediction.specs.Block.{mean_of, with_residual}
use Rattle.prediction.proofs.Facts.{rows_are}
use Rattle.prediction.proofs.sum_rows.Goals as goal

pub returns : goal.returns
returns c =
    let e : c.loop-r.r ≡ 8 = omega arith in
    rows_are (λ n r. with_residual c.args.residual.now (r * 8 + n) (mean_of c.args.source.now (c.args.a + r * c.args.stride + n) (c.args.b + r * c.args.stride + n)))
    (replicate 64 0) c.loop-r.t refl (rw e at c.loop-r.invariant.1)

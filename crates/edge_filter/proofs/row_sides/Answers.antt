use Rattle.std.proofs.Common.{◌≡◌, ◌+◌, ◌*◌, arith}
use Rattle.std.proofs.Math.ListN.{length-set}
use Rattle.edge_filter.specs.Edge.{crossed}
use Rattle.edge_filter.proofs.Edge.{sides_more}
use Rattle.edge_filter.proofs.row_sides.Goals as goal

pub loop-k-preserved : goal.loop-k-preserved
unfolding crossed
loop-k-preserved c =
    let i : c.args.at + c.loop-k.k * 1 ≡ c.args.at + c.loop-k.k = omega arith in (
      simp length-set c.loop-k.invariant.0,
      sides_more (crossed c.args.limit c.args.at 1 c.args.row c.args.s.now) c.loop-k.t c.loop-k.k _ _ c.loop-k.invariant.0 c.loop-k-test.true
          (rw i c.sides-q.ensures.0) (rw i c.sides-q.ensures.1) c.loop-k.invariant.1,
    )

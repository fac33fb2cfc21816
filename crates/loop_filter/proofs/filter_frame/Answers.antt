use Rattle.std.proofs.Common.{◌≡◌, sym, ◌∙◌, arith}
use Rattle.loop_filter.proofs.Frame.{planes_all}
use Rattle.loop_filter.proofs.Zero.{zero_filter}
use Rattle.loop_filter.proofs.filter_frame.Goals as goal

pub returns-then-limit-eq0 : goal.returns-then-limit-eq0
returns-then-limit-eq0 c =
    let e : c.args.limit ≡ 0 = omega arith in
    rw e (sym (zero_filter c.args.new.now (λ i. omega (arith, c.type_inv.new i)) c.args.format c.args.w c.args.h _))

pub returns : goal.returns
returns c =
    let e : c.loop-p.p ≡ 3 = omega arith in
    rw e at c.loop-p.invariant ∙ planes_all c.args.format c.args.w c.args.h c.args.records.now c.args.limit c.args.new.now

use native.Mathlib.Omega.{arith}
use mathlib.Core.Path.{◌∙◌}
use Rattle.tokens.specs.Answer.{unfinished_of}
use Rattle.tokens.proofs.Unfinished.{keeps_on, keeps_end, same_head, same_rest}
use Rattle.tokens.proofs.keep_unfinished.Goals as goal

pub keep_one-kept-requires : goal.keep_one-kept-requires
keep_one-kept-requires c = let e = same_head c.loop-j.j c.loop-j.blocks c.args.blocks.now c.loop-j.invariant.3 in
    (c.loop-j-test.true, c.loop-j.invariant.1, omega (arith, e, c.requires.each c.loop-j.j (omega (arith, c.loop-j-test.true, c.loop-j.invariant.2))))

pub loop-j-preserved : goal.loop-j-preserved
loop-j-preserved c = (
  omega (arith, c.keep_one-kept.auto.blocks, c.loop-j-test.true),
  c.keep_one-kept.ensures.most,
  c.keep_one-kept.auto.blocks ∙ c.loop-j.invariant.2,
  c.keep_one-kept.ensures.rest ∙ same_rest c.loop-j.j c.loop-j.blocks c.args.blocks.now c.loop-j.invariant.3,
  keeps_on c.args.positions.now c.loop-j.blocks c.keep_one-kept.new.blocks (unfinished_of c.args.positions.now c.args.blocks.now) c.loop-j.j c.loop-j.kept c.keep_one-kept.result c.loop-j-test.true c.loop-j.invariant.4 c.keep_one-kept.ensures,
)

pub returns : goal.returns
returns c = (keeps_end c.args.positions.now c.loop-j.blocks (unfinished_of c.args.positions.now c.args.blocks.now) c.loop-j.j c.loop-j.kept c.loop-j-test.false c.loop-j.invariant.4, omega (arith, c.loop-j.invariant.0, c.loop-j.invariant.1, c.loop-j.invariant.2))

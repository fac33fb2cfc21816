use Prim.Native.Nat.{◌<◌}
use native.Mathlib.Omega.{arith}
use lib.ListN.{get_or}
use Rattle.bitstream.proofs.ListLaws.{all_at}
use Rattle.counting.proofs.Laws.{modes_more, modes_all}
use Rattle.counting.proofs.count_modes.Goals as goal

pub bounds-counts-mode : goal.bounds-counts-mode
bounds-counts-mode c =
    let small : get_or c.args.modes.now c.loop-i.i 0 < 8 =
    all_at c.loop-i.i c.requires c.loop-i-test.true in
    omega (arith, small)

pub bounds-counts-mode-in-loop-i : goal.bounds-counts-mode-in-loop-i
bounds-counts-mode-in-loop-i c =
    let small : get_or c.args.modes.now c.loop-i.i 0 < 8 =
    all_at c.loop-i.i c.requires c.loop-i-test.true in
    omega (arith, small)

pub loop-i-preserved : goal.loop-i-preserved
loop-i-preserved c =
    let small : get_or c.args.modes.now c.loop-i.i 0 < 8 =
    all_at c.loop-i.i c.requires c.loop-i-test.true in
    (omega (arith, c.loop-i-test.true), modes_more _ _ _ c.loop-i-test.true (small) c.loop-i.invariant.1)

pub returns : goal.returns
returns c = modes_all _ _ _ c.loop-i-test.false c.loop-i.invariant.1

-- `dc_means::mean_of_two` meets its contract. Assumes nothing.
use lib.IntN.{◌+ℤ◌}
use mir.Syntax.{w32}
use Rattle.numeric.proofs.Known.{Known, k_wide, k_add, k_div, ask_size}
use Rattle.dc_means.specs.Means.{mean_of_two}
use Rattle.dc_means.proofs.mean_of_two.Goals as goal

pub returns : goal.returns
unfolding mean_of_two
returns c =
    let x : Known w32 c.args.x 32768 =
    k_wide c.ranges.x in
    let y : Known w32 c.args.y 32768 =
    k_wide c.ranges.y in
    let sum : Known w32 (c.args.x +ℤ c.args.y) 65536 =
    k_add x y tt in
    let q = k_div 2 86016 (sum) tt tt in (q.reads, ask_size q 86016 tt)

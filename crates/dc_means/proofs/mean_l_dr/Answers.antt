-- `dc_means::mean_l_dr` meets its contract. Assumes nothing.
use lib.IntN.{pos, ◌+ℤ◌, ◌*ℤ◌}
use mir.Syntax.{w32}
use Rattle.numeric.proofs.Known.{Known, k_wide, k_lit, k_add, k_mul, k_div, ask_size}
use Rattle.dc_means.specs.Means.{mean_ldr}
use Rattle.dc_means.proofs.mean_l_dr.Goals as goal

pub returns : goal.returns
unfolding mean_ldr
returns c =
    let l : Known w32 c.args.l 32768 =
    k_wide c.ranges.l in
    let l-times : Known w32 (c.args.l *ℤ pos 75) 2457600 =
    k_mul l (k_lit 75 tt) tt in
    let dr : Known w32 c.args.dr 32768 =
    k_wide c.ranges.dr in
    let dr-times : Known w32 (c.args.dr *ℤ pos 53) 1736704 =
    k_mul dr (k_lit 53 tt) tt in
    let sum : Known w32 (c.args.l *ℤ pos 75 +ℤ c.args.dr *ℤ pos 53) 4194304 =
    k_add l-times dr-times tt in
    let q = k_div 128 86016 (sum) tt tt in (q.reads, ask_size q 86016 tt)

-- `dc_means::mean_l_dl_d` meets its contract. Assumes nothing.
use lib.IntN.{pos, ◌+ℤ◌, ◌-ℤ◌, ◌*ℤ◌}
use mir.Syntax.{w32}
use Rattle.numeric.proofs.Known.{Known, k_wide, k_lit, k_add, k_sub, k_mul, k_div, ask_size}
use Rattle.dc_means.specs.Means.{mean_ldl_d}
use Rattle.dc_means.proofs.mean_l_dl_d.Goals as goal

pub returns : goal.returns
unfolding mean_ldl_d
returns c =
    let l : Known w32 c.args.l 32768 =
    k_wide c.ranges.l in
    let l-times : Known w32 (c.args.l *ℤ pos 29) 950272 =
    k_mul l (k_lit 29 tt) tt in
    let dl : Known w32 c.args.dl 32768 =
    k_wide c.ranges.dl in
    let dl-times : Known w32 (c.args.dl *ℤ pos 26) 851968 =
    k_mul dl (k_lit 26 tt) tt in
    let d : Known w32 c.args.d 32768 =
    k_wide c.ranges.d in
    let d-times : Known w32 (c.args.d *ℤ pos 29) 950272 =
    k_mul d (k_lit 29 tt) tt in
    let part : Known w32 (c.args.l *ℤ pos 29 -ℤ c.args.dl *ℤ pos 26) 1802240 =
    k_sub l-times dl-times tt in
    let sum : Known w32 (c.args.l *ℤ pos 29 -ℤ c.args.dl *ℤ pos 26 +ℤ c.args.d *ℤ pos 29) 2752512 =
    k_add part d-times tt in
    let q = k_div 32 86016 (sum) tt tt in (q.reads, ask_size q 86016 tt)

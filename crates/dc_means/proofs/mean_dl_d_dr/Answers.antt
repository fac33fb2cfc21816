-- `dc_means::mean_dl_d_dr` meets its contract. Assumes nothing.
use lib.IntN.{pos, ◌+ℤ◌, ◌*ℤ◌}
use mir.Syntax.{w32}
use Rattle.numeric.proofs.Known.{Known, k_wide, k_lit, k_add, k_mul, k_div, ask_add, ask_size}
use Rattle.dc_means.specs.Means.{mean_dl_ddr}
use Rattle.dc_means.proofs.mean_dl_d_dr.Goals as goal

pub overflow_add-result-2 : goal.overflow_add-result-2
overflow_add-result-2 c =
    let dl : Known w32 c.args.dl 32768 =
    k_wide c.ranges.dl in
    let dl-times : Known w32 (c.args.dl *ℤ pos 3) 98304 =
    k_mul dl (k_lit 3 tt) tt in
    let d : Known w32 c.args.d 32768 =
    k_wide c.ranges.d in
    let d-times : Known w32 (c.args.d *ℤ pos 10) 327680 =
    k_mul d (k_lit 10 tt) tt in
    let dr : Known w32 c.args.dr 32768 =
    k_wide c.ranges.dr in
    let dr-times : Known w32 (c.args.dr *ℤ pos 3) 98304 =
    k_mul dr (k_lit 3 tt) tt in
    let part : Known w32 (c.args.dl *ℤ pos 3 +ℤ c.args.d *ℤ pos 10) 425984 =
    k_add dl-times d-times tt in
    ask_add (part) (dr-times) tt

pub returns : goal.returns
unfolding mean_dl_ddr
returns c =
    let dl : Known w32 c.args.dl 32768 =
    k_wide c.ranges.dl in
    let dl-times : Known w32 (c.args.dl *ℤ pos 3) 98304 =
    k_mul dl (k_lit 3 tt) tt in
    let d : Known w32 c.args.d 32768 =
    k_wide c.ranges.d in
    let d-times : Known w32 (c.args.d *ℤ pos 10) 327680 =
    k_mul d (k_lit 10 tt) tt in
    let dr : Known w32 c.args.dr 32768 =
    k_wide c.ranges.dr in
    let dr-times : Known w32 (c.args.dr *ℤ pos 3) 98304 =
    k_mul dr (k_lit 3 tt) tt in
    let part : Known w32 (c.args.dl *ℤ pos 3 +ℤ c.args.d *ℤ pos 10) 425984 =
    k_add dl-times d-times tt in
    let sum : Known w32 (c.args.dl *ℤ pos 3 +ℤ c.args.d *ℤ pos 10 +ℤ c.args.dr *ℤ pos 3) 524288 =
    k_add part dr-times tt in
    let q = k_div 16 86016 (sum) tt tt in (q.reads, ask_size q 86016 tt)

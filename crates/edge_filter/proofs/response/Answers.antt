-- `edge_filter::response` meets its contract.
-- Assumes nothing.
use native.Mathlib.Omega.{arith}
use mir.Syntax.{w16}
use lib.IntN.{pos, ◌+ℤ◌, ◌-ℤ◌, ◌*ℤ◌}
use Rattle.numeric.proofs.Known.{Known, k_nat, k_lit, k_mul, k_add, k_sub, k_shr, ask_size}
use Rattle.edge_filter.specs.Filter.{response_of}
use Rattle.edge_filter.proofs.response.Goals as goal

pub returns : goal.returns
unfolding response_of
returns c =
    let p0 : Known w16 (pos c.args.p0) 255 =
    k_nat _ 255 (omega arith) tt in
    let p1 : Known w16 (pos c.args.p1) 255 =
    k_nat _ 255 (omega arith) tt in
    let p2 : Known w16 (pos c.args.p2) 255 =
    k_nat _ 255 (omega arith) tt in
    let q3 : Known w16 (pos c.args.p3) 255 =
    k_nat _ 255 (omega arith) tt in
    let three-p1 : Known w16 (pos 3 *ℤ pos c.args.p1) 765 =
    k_mul (k_lit 3 tt) p1 tt in
    let three-p2 : Known w16 (pos 3 *ℤ pos c.args.p2) 765 =
    k_mul (k_lit 3 tt) p2 tt in
    let sum1 : Known w16 (pos c.args.p0 -ℤ pos 3 *ℤ pos c.args.p1) 1020 =
    k_sub p0 three-p1 tt in
    let sum2 : Known w16 (pos c.args.p0 -ℤ pos 3 *ℤ pos c.args.p1 +ℤ pos 3 *ℤ pos c.args.p2) 1785 =
    k_add sum1 three-p2 tt in
    let sum3 : Known w16 (pos c.args.p0 -ℤ pos 3 *ℤ pos c.args.p1 +ℤ pos 3 *ℤ pos c.args.p2 -ℤ pos c.args.p3) 2040 =
    k_sub sum2 q3 tt in
    let k = k_shr 3 256 (k_add (sum3) (k_lit 4 tt) tt) tt tt tt in (k.reads, ask_size k 256 tt)

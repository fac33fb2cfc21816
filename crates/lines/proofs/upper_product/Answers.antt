-- `lines::upper_product` meets its contract. Assumes nothing.
use mathlib.Core.Path.{ap₂, ◌∙◌}
use Prim.Native.Nat.{ℕ, suc, ◌-◌}
use native.Mathlib.Omega.{arith}
use lib.IntN.{pos, negsuc, ◌-ℤ◌, ◌*ℤ◌}
use mir.Syntax.{w16, w32}
use mir.Val.{SFits}
use Rattle.numeric.specs.Divide.{floor_shift}
use Rattle.numeric.proofs.Magnitude.{size, size_mul, sub_less}
use Rattle.numeric.proofs.Known.{Known, k_wide, k_nat, k_lit, k_made, k_is, k_add, k_mul, ask_mul, k_shr, k_cast, k_fit, ask_fit}
use Rattle.lines.specs.Line.{upper_product}
use Rattle.lines.proofs.Low16.{less_65536, half_fits}
use Rattle.lines.proofs.upper_product.Goals as goal

pub returns-then-c-lt32768 : goal.returns-then-c-lt32768
unfolding upper_product
returns-then-c-lt32768 c =
    let w : Known w32 c.args.x 32768 =
    k_wide c.ranges.x in
    let n : Known w32 (pos c.args.c) 32767 =
    k_nat c.args.c 32767 (omega (arith, c.if-c-lt32768.true)) tt in
    let half : Known w32 (floor_shift (c.args.x *ℤ pos c.args.c) 16) 16384 =
    k_shr 16 16384 (k_mul (w) n tt) tt tt tt in
    (k_cast w16 (half) tt).reads

pub overflow_mul-result-2 : goal.overflow_mul-result-2
overflow_mul-result-2 c =
    let w : Known w32 c.args.x 32768 =
    k_wide c.ranges.x in
    let m : Known w32 (pos c.args.c) 65535 =
    k_nat c.args.c 65535 (omega arith) tt in
    let k : ℕ =
    65536 - suc c.args.c in
    let factor : Known w32 (negsuc k) 32768 =
    k_made (ap₂ ◌-ℤ◌ m.reads (k_lit {w = w32} 65536 tt).reads ∙ sub_less c.args.c 65536 (omega arith)) (size (omega (arith, c.if-c-lt32768.false))) tt in
    ask_mul (w) (factor) tt

pub overflow_cast-result-3 : goal.overflow_cast-result-3
overflow_cast-result-3 c =
    let w : Known w32 c.args.x 32768 =
    k_wide c.ranges.x in
    let m : Known w32 (pos c.args.c) 65535 =
    k_nat c.args.c 65535 (omega arith) tt in
    let k : ℕ =
    65536 - suc c.args.c in
    let factor : Known w32 (negsuc k) 32768 =
    k_made (ap₂ ◌-ℤ◌ m.reads (k_lit {w = w32} 65536 tt).reads ∙ sub_less c.args.c 65536 (omega arith)) (size (omega (arith, c.if-c-lt32768.false))) tt in
    let part : Known w32 (floor_shift (c.args.x *ℤ negsuc k) 16) 16384 =
    k_shr 16 16384 (k_mul (w) factor tt) tt tt tt in
    let whole : Known w32 (floor_shift (c.args.x *ℤ pos c.args.c) 16) 49152 =
    k_is (k_add part (w) tt) (less_65536 c.args.x c.args.c k (omega arith)) in
    let fits : SFits w16 (floor_shift (c.args.x *ℤ pos c.args.c) 16) =
    half_fits (c.args.x *ℤ pos c.args.c) (size_mul (w).bound m.bound).le in
    ask_fit w16 (whole) (fits)

pub returns : goal.returns
unfolding upper_product
returns c =
    let w : Known w32 c.args.x 32768 =
    k_wide c.ranges.x in
    let m : Known w32 (pos c.args.c) 65535 =
    k_nat c.args.c 65535 (omega arith) tt in
    let k : ℕ =
    65536 - suc c.args.c in
    let factor : Known w32 (negsuc k) 32768 =
    k_made (ap₂ ◌-ℤ◌ m.reads (k_lit {w = w32} 65536 tt).reads ∙ sub_less c.args.c 65536 (omega arith)) (size (omega (arith, c.if-c-lt32768.false))) tt in
    let part : Known w32 (floor_shift (c.args.x *ℤ negsuc k) 16) 16384 =
    k_shr 16 16384 (k_mul (w) factor tt) tt tt tt in
    let whole : Known w32 (floor_shift (c.args.x *ℤ pos c.args.c) 16) 49152 =
    k_is (k_add part (w) tt) (less_65536 c.args.x c.args.c k (omega arith)) in
    let fits : SFits w16 (floor_shift (c.args.x *ℤ pos c.args.c) 16) =
    half_fits (c.args.x *ℤ pos c.args.c) (size_mul (w).bound m.bound).le in
    (k_fit w16 (whole) (fits)).reads

-- `motion_reader::signed_value` meets its contract. Assumes nothing.
use mathlib.Core.Path.{◌∙◌}
use mir.Syntax.{w32}
use lib.IntN.{pos}
use Rattle.numeric.proofs.Known.{Known, k_nat, k_lit, k_sub}
use Rattle.numeric.proofs.SignLaws.{sign_minus, sign_plus}
use Rattle.motion_reader.proofs.signed_value.Goals as goal

pub returns-then-sign-eq1 : goal.returns-then-sign-eq1
returns-then-sign-eq1 c =
    let n : Known w32 (pos c.args.magnitude) 31 =
    k_nat c.args.magnitude 31 c.requires tt in
    (k_sub (k_lit 0 tt) (n) tt).reads ∙ sign_minus c.args.sign c.args.magnitude c.if-sign-eq1.true

pub returns : goal.returns
returns c =
    let n : Known w32 (pos c.args.magnitude) 31 =
    k_nat c.args.magnitude 31 c.requires tt in
    (n).reads ∙ sign_plus c.args.sign c.args.magnitude c.if-sign-eq1.false

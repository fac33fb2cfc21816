-- `token::value_of` meets its contract. Assumes nothing.
use borrow.Author.Rules.{rules}
use mathlib.Core.Path.{◌∙◌}
use lib.IntN.{pos}
use mir.Syntax.{w16}
use Rattle.numeric.proofs.Known.{Known, k_nat, k_lit, k_sub, ask_sub}
use Rattle.numeric.proofs.SignLaws.{sign_minus, sign_plus}
use Rattle.token.proofs.value_of.Goals as goal

pub returns-then-sign-eq1 : goal.returns-then-sign-eq1
returns-then-sign-eq1 c =
    let size : Known w16 (pos c.args.size) 5000 =
    k_nat c.args.size 5000 c.requires tt in
    (k_sub (k_lit 0 tt) (size) tt).reads ∙ sign_minus c.args.sign c.args.size c.if-sign-eq1.true

pub returns : goal.returns
returns c =
    let size : Known w16 (pos c.args.size) 5000 =
    k_nat c.args.size 5000 c.requires tt in
    (size).reads ∙ sign_plus c.args.sign c.args.size c.if-sign-eq1.false

-- `token::meaning_of` meets its contract: the three numbers are the definition's, and the token's number says which arm it is. Assumes nothing.
use borrow.Author.Rules.{rules}
use Prim.Native.Nat.{◌+◌, ◌/◌, ◌%◌, ◌^◌}
use native.Mathlib.Omega.{arith}
use mathlib.Core.Path.{◌≡◌, sym, ◌∙◌}
use mir.Syntax.{w16}
use lib.Pow.{shr_le}
use Rattle.numeric.proofs.Known.{back}
use Rattle.numeric.specs.Sign.{with_sign}
use Rattle.token.specs.Token.{row_of}
use Rattle.token.specs.Answer.{sign_of, size_of, zeros_of}
use Rattle.token.specs.declared.Token.TheVariants.{EndOfBlock, ZeroRun, Coefficient}
use Rattle.token.proofs.Facts.{means_end, means_zeros, means_value}
use Rattle.token.proofs.meaning_of.Goals as goal

pub returns-then-t-lt7 : goal.returns-then-t-lt7
returns-then-t-lt7 c =
    let size_is : c.args.row.2 + c.low.result ≡ size_of (row_of c.args.t) c.args.x =
    λ i. (c.requires.0 i).2 + (c.low.ensures.0 ∙ (λ j. c.args.x / 2 ^ (c.requires.0 j).5 % 2 ^ (c.requires.0 j).3)) i in
    (λ i. EndOfBlock (size_is i) c.args.next) ∙ sym (means_end c.args.t _ _ _ c.args.next c.if-t-lt7.true)

pub returns-then-t-lt9 : goal.returns-then-t-lt9
returns-then-t-lt9 c =
    let size_is : c.args.row.2 + c.low.result ≡ size_of (row_of c.args.t) c.args.x =
    λ i. (c.requires.0 i).2 + (c.low.ensures.0 ∙ (λ j. c.args.x / 2 ^ (c.requires.0 j).5 % 2 ^ (c.requires.0 j).3)) i in
    (λ i. ZeroRun (size_is i) c.args.next) ∙ sym (means_zeros c.args.t _ _ _ c.args.next c.if-t-lt7.false c.if-t-lt9.true)

pub returns : goal.returns
returns c =
    let size_is : c.args.row.2 + c.low.result ≡ size_of (row_of c.args.t) c.args.x =
    λ i. (c.requires.0 i).2 + (c.low.ensures.0 ∙ (λ j. c.args.x / 2 ^ (c.requires.0 j).5 % 2 ^ (c.requires.0 j).3)) i in
    let sign : c.args.row.0 + c.args.x / 2 ^ c.args.row.5 / 2 ^ c.args.row.3 ≡ sign_of (row_of c.args.t) c.args.x =
    λ i. (c.requires.0 i).0 + c.args.x / 2 ^ (c.requires.0 i).5 / 2 ^ (c.requires.0 i).3 in
    let zeros : c.args.row.4 + c.low-2.result ≡ zeros_of (row_of c.args.t) c.args.x =
    λ i. (c.requires.0 i).4 + (c.low-2.ensures.0 ∙ (λ j. c.args.x % 2 ^ (c.requires.0 j).5)) i in
    let value = back w16 _ c.value_of-value.type_inv ∙ c.value_of-value.ensures ∙ (λ i. with_sign (sign i) (size_is i)) in
    (λ i. Coefficient (zeros i) (value i) c.args.next) ∙ sym (means_value c.args.t _ _ _ c.args.next c.if-t-lt9.false)

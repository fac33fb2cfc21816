-- `lines::weighted_sum` meets its contract. Assumes nothing.
use Rattle.std.proofs.Common.{ap, ap₂, ◌∙◌, rules, ℤ, ◌+ℤ◌, w16, FitsSigned}
use Rattle.std.proofs.lemmas.Int.{to_z-of_z}
use Rattle.numeric.specs.Cut.{cut}
use Rattle.lines.specs.Line.{upper_product}
use Rattle.lines.proofs.Low16.{add_cut}
use Rattle.lines.proofs.weighted_sum.Goals as goal

pub returns : goal.returns
returns c =
    let x = c.upper_product.result in
    let y = c.upper_product-2.result in
    let f : FitsSigned w16 x = search rules in
    let g : FitsSigned w16 y = search rules in
    add_cut x y f g
    ∙ ap₂ (λ (a b : ℤ). cut (a +ℤ b)) (c.upper_product.ensures ∙ ap (upper_product c.args.c) (to_z-of_z w16 c.args.x c.ranges.x))
    (c.upper_product-2.ensures ∙ ap (upper_product c.args.d) (to_z-of_z w16 c.args.y c.ranges.y))

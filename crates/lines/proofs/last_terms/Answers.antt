-- `lines::last_terms` meets its contract. Assumes nothing.
use Rattle.std.proofs.Common.{ap, ap₂, ◌∙◌, rules, FitsSigned, w16, ℤ, ◌+ℤ◌, ◌-ℤ◌}
use Rattle.std.proofs.lemmas.Int.{to_z-of_z}
use Rattle.numeric.specs.Cut.{mod16, cut}
use Rattle.lines.specs.Line as L
use Rattle.lines.specs.Line.{C1, C3, C4, C5, C7, upper_product, times_c4, last_terms}
use Rattle.lines.proofs.Low16.{sum_cut, difference_cut, low}
use Rattle.lines.proofs.last_terms.Goals as goal

pub returns : goal.returns
unfolding L.G L.K L.e L.g L.h L.k last_terms times_c4
returns c =
    let l = c.args.l in
    let f1 : FitsSigned w16 l.x1 = search rules in
    let f3 : FitsSigned w16 l.x3 = search rules in
    let f5 : FitsSigned w16 l.x5 = search rules in
    let f7 : FitsSigned w16 l.x7 = search rules in
    let x1 = to_z-of_z w16 l.x1 f1 in
    let x3 = to_z-of_z w16 l.x3 f3 in
    let x5 = to_z-of_z w16 l.x5 f5 in
    let x7 = to_z-of_z w16 l.x7 f7 in
    let e = c.weighted_difference-e.result in
    let k = c.weighted_difference-k.result in
    let g = c.weighted_sum-g.result in
    let h = c.weighted_sum-h.result in
    let k4 = c.upper_product-k4.result in
    let g4 = c.upper_product-g4.result in
    let fe : FitsSigned w16 e = search rules in
    let fk : FitsSigned w16 k = search rules in
    let fg : FitsSigned w16 g = search rules in
    let fh : FitsSigned w16 h = search rules in
    let fk4 : FitsSigned w16 k4 = search rules in
    let fg4 : FitsSigned w16 g4 = search rules in
    let e-is = low e (L.e l) (c.weighted_difference-e.ensures ∙ ap₂ (λ (u v : ℤ). cut (upper_product C7 u -ℤ upper_product C1 v)) x1 x7) in
    let k-is = low k (L.k l) (c.weighted_difference-k.ensures ∙ ap₂ (λ (u v : ℤ). cut (upper_product C3 u -ℤ upper_product C5 v)) x5 x3) in
    let g-is = low g (L.g l) (c.weighted_sum-g.ensures ∙ ap₂ (λ (u v : ℤ). cut (upper_product C5 u +ℤ upper_product C3 v)) x5 x3) in
    let h-is = low h (L.h l) (c.weighted_sum-h.ensures ∙ ap₂ (λ (u v : ℤ). cut (upper_product C1 u +ℤ upper_product C7 v)) x1 x7) in
    let k4-is = ap mod16 (c.upper_product-k4.ensures ∙ ap (upper_product C4) (difference_cut e k (L.e l) (L.k l) fe fk e-is k-is)) in
    let g4-is = ap mod16 (c.upper_product-g4.ensures ∙ ap (upper_product C4) (difference_cut h g (L.h l) (L.g l) fh fg h-is g-is)) in (
      sum_cut h g (L.h l) (L.g l) fh fg h-is g-is,
      sum_cut g4 k4 (L.G l) (L.K l) fg4 fk4 g4-is k4-is,
      difference_cut g4 k4 (L.G l) (L.K l) fg4 fk4 g4-is k4-is,
      sum_cut e k (L.e l) (L.k l) fe fk e-is k-is,
    )

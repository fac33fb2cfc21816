-- `lines::first_terms` meets its contract. Assumes nothing.
use Rattle.std.proofs.Common.{ap, ap₂, ◌∙◌, rules, FitsSigned, w16, ℤ, ◌+ℤ◌, ◌-ℤ◌}
use Rattle.std.proofs.lemmas.Int.{to_z-of_z}
use Rattle.numeric.specs.Cut.{mod16, cut}
use Rattle.lines.specs.Line as L
use Rattle.lines.specs.Line.{C2, C4, C6, upper_product, times_c4, first_terms}
use Rattle.lines.proofs.Low16.{add_cut, sub_cut, sum_cut, difference_cut, low}
use Rattle.lines.proofs.first_terms.Goals as goal

pub returns : goal.returns
unfolding L.a L.b L.c L.d first_terms times_c4
returns c =
    let l = c.args.l in
    let f0 : FitsSigned w16 l.x0 = search rules in
    let f2 : FitsSigned w16 l.x2 = search rules in
    let f4 : FitsSigned w16 l.x4 = search rules in
    let f6 : FitsSigned w16 l.x6 = search rules in
    let x2 = to_z-of_z w16 l.x2 f2 in
    let x6 = to_z-of_z w16 l.x6 f6 in
    let a = c.upper_product-a.result in
    let b = c.upper_product-b.result in
    let k = c.weighted_difference-c.result in
    let d = c.weighted_sum-d.result in
    let fa : FitsSigned w16 a = search rules in
    let fb : FitsSigned w16 b = search rules in
    let fk : FitsSigned w16 k = search rules in
    let fd : FitsSigned w16 d = search rules in
    let a-is = ap mod16 (c.upper_product-a.ensures ∙ ap (upper_product C4) (add_cut l.x0 l.x4 f0 f4)) in
    let b-is = ap mod16 (c.upper_product-b.ensures ∙ ap (upper_product C4) (sub_cut l.x0 l.x4 f0 f4)) in
    let k-is = low k (L.c l) (c.weighted_difference-c.ensures ∙ ap₂ (λ (u v : ℤ). cut (upper_product C6 u -ℤ upper_product C2 v)) x2 x6) in
    let d-is = low d (L.d l) (c.weighted_sum-d.ensures ∙ ap₂ (λ (u v : ℤ). cut (upper_product C2 u +ℤ upper_product C6 v)) x2 x6) in (
      sum_cut a d (L.a l) (L.d l) fa fd a-is d-is,
      sum_cut b k (L.b l) (L.c l) fb fk b-is k-is,
      difference_cut b k (L.b l) (L.c l) fb fk b-is k-is,
      difference_cut a d (L.a l) (L.d l) fa fd a-is d-is,
    )

use Rattle.std.proofs.Common.{arith, get_or, pos, length, ◌<◌, w16, ap, ◌∙◌, rules, FitsSigned}
use Rattle.std.proofs.lemmas.Int.{to_z-of_z}
use Rattle.std.proofs.lemmas.List.Edits.{map_over_more}
use Rattle.std.proofs.lemmas.List.{get_or_default, take_all, drop_all, append-nil}
use Rattle.numeric.proofs.Known.{back}
use Rattle.transform.specs.Residual.{rounded}
use Rattle.transform.proofs.round_all.Goals as goal

pub loop-i-preserved : goal.loop-i-preserved
loop-i-preserved c =
    let lt : c.loop-i.i < length c.loop-i.s = omega arith in
    let x = get_or c.loop-i.s c.loop-i.i (pos 0) in
    let fits : FitsSigned w16 x = search rules in
    rw (back w16 c.rounded.result c.rounded.type_inv ∙ c.rounded.ensures ∙ ap rounded (to_z-of_z w16 x fits))
    (map_over_more rounded c.args.s.now c.loop-i.s c.loop-i.i x (omega arith) c.loop-i.invariant (get_or_default c.loop-i.s c.loop-i.i (pos 0) x lt))

pub returns : goal.returns
returns c = grind (arith, take_all, drop_all, append-nil)

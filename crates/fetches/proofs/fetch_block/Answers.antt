use Rattle.std.proofs.Common.{◌≡◌, ◌/◌, ◌%◌, ◌+◌, ◌*◌, ap₂, ◌∙◌, arith, rules, w32, FitsSigned, length-set}
use Rattle.fetches.specs.Motion.{fetch}
use Rattle.fetches.specs.Fetched.{mean, mean_at}
use Rattle.std.proofs.lemmas.List.Edits.{fill_by_more}
use Rattle.fetches.proofs.Leads.{moved}
use Rattle.fetches.proofs.fetch_block.Goals as goal

pub loop-i-preserved : goal.loop-i-preserved
unfolding mean_at
loop-i-preserved c =
    let t = c.args.t in
    let i = c.loop-i.i in
    let x1 : FitsSigned w32 t.x1 = search rules in
    let y1 : FitsSigned w32 t.y1 = search rules in
    let x2 : FitsSigned w32 t.x2 = search rules in
    let y2 : FitsSigned w32 t.y2 = search rules in
    let near = c.requires.1 in
    let p = c.fetch-p.ensures ∙ ap₂ (fetch c.args.plane c.args.s.now) (moved t.x1 (i % 8) x1 near.x1 (omega arith)) (moved t.y1 (i / 8) y1 near.y1 (omega arith)) in
    let q = c.fetch.ensures ∙ ap₂ (fetch c.args.plane c.args.s.now) (moved t.x2 (i % 8) x2 near.x2 (omega arith)) (moved t.y2 (i / 8) y2 near.y2 (omega arith)) in (
      simp length-set c.loop-i.invariant.0,
      rw (c.mean.ensures ∙ ap₂ mean p q) (fill_by_more (λ j. mean_at c.args.plane c.args.s.now t (j % 8) (j / 8)) c.loop-i.m i 0 (omega arith) c.loop-i.invariant.1),
    )

pub returns : goal.returns
returns c = record {
  each = λ k r h l.
      let column : (r * 8 + k) % 8 ≡ k = omega arith in
      let row : (r * 8 + k) / 8 ≡ r = omega arith in
      c.loop-i.invariant.1 (r * 8 + k) (omega arith) ∙ ap₂ (mean_at c.args.plane c.args.s.now c.args.t) column row;
}

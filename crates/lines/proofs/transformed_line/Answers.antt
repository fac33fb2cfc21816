-- `lines::transformed_line` meets its contract. Assumes nothing.
use mathlib.Core.Path.{◌≡◌, ◌∙◌}
use Rattle.numeric.specs.Cut.{cut}
use Rattle.lines.specs.declared.Terms.{Terms}
use Rattle.lines.specs.Line.{outputs, transformed_line}
use Rattle.lines.proofs.Low16.{add_same, sub_same, low}
use Rattle.lines.proofs.transformed_line.Goals as goal

abbrev IsCut : Terms → Terms → Type 0
IsCut t u = (t.t0 ≡ cut u.t0) × (t.t1 ≡ cut u.t1) × (t.t2 ≡ cut u.t2) × (t.t3 ≡ cut u.t3)

-- the outputs are cut, so that the terms may be cut before
outputs-same : (f g u v : Terms) → IsCut f u → IsCut g v → outputs f g ≡ outputs u v
outputs-same f g u v e h =
    let f0 = low f.t0 u.t0 e.0 in
    let f1 = low f.t1 u.t1 e.1 in
    let f2 = low f.t2 u.t2 e.2 in
    let f3 = low f.t3 u.t3 e.3 in
    let g0 = low g.t0 v.t0 h.0 in
    let g1 = low g.t1 v.t1 h.1 in
    let g2 = low g.t2 v.t2 h.2 in
    let g3 = low g.t3 v.t3 h.3 in
    λ i. record {
      x0 = add_same f.t0 g.t0 u.t0 v.t0 f0 g0 i;
      x1 = add_same f.t1 g.t1 u.t1 v.t1 f1 g1 i;
      x2 = add_same f.t2 g.t2 u.t2 v.t2 f2 g2 i;
      x3 = add_same f.t3 g.t3 u.t3 v.t3 f3 g3 i;
      x4 = sub_same f.t3 g.t3 u.t3 v.t3 f3 g3 i;
      x5 = sub_same f.t2 g.t2 u.t2 v.t2 f2 g2 i;
      x6 = sub_same f.t1 g.t1 u.t1 v.t1 f1 g1 i;
      x7 = sub_same f.t0 g.t0 u.t0 v.t0 f0 g0 i;
    }

pub returns : goal.returns
unfolding transformed_line
returns c = c.outputs.ensures ∙ outputs-same c.first_terms.result c.last_terms.result _ _ c.first_terms.ensures c.last_terms.ensures

use Rattle.std.proofs.Common.{◌≡◌, ℕ, ◌+◌, ◌*◌, ◌/◌, ◌%◌, List, get_or, set, refl, sym, ap, ◌∙◌, arith}
use Rattle.ways.specs.Loops.{up_to}
use Rattle.ways.proofs.Steps.{up_to_more}
use Rattle.edge_filter.specs.Edge.{pairs_at}
use Rattle.edge_filter.proofs.write_pairs.Invariants.{put}
use Rattle.edge_filter.proofs.write_pairs.Goals as goal

pub loop-k-init : goal.loop-k-init
unfolding up_to
loop-k-init c = refl

pub loop-k-preserved : goal.loop-k-preserved
loop-k-preserved c =
    let at = c.args.at + c.loop-k.k * c.args.row in
    let fits = c.fits-r c.loop-k.k in
    let high : get_or c.args.r.now c.loop-k.k 0 / 256 % 256 ≡ get_or c.args.r.now c.loop-k.k 0 / 256 = omega arith in
    let p1 = ap (λ (l : List ℕ). get_or l 0 0) c.to_le_bytes.ensures in
    let p2 = ap (λ (l : List ℕ). get_or l 1 0) c.to_le_bytes.ensures ∙ high in
    (λ i. set (set (c.loop-k.invariant i) (at + 1) (p1 i)) (at + 2) (p2 i))
    ∙ sym (up_to_more c.loop-k.k (put c.args.r.now c.args.at c.args.row) c.args.s.now)

pub returns : goal.returns
unfolding pairs_at
returns c = let e : c.loop-k.k ≡ 8 = omega arith in rw e at c.loop-k.invariant

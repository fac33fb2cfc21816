-- `prediction::write_moved` meets its contract.
-- Assumes nothing.
use Rattle.std.proofs.Common.{◌≡◌, ◌+◌, ◌*◌, ℤ, to_z, of_z, w32, FitsSigned, sym, ap, ap₂, ◌∙◌, arith, rules}
use Rattle.std.proofs.lemmas.Int.{to_z-of_z}
use Rattle.fetches.specs.Fetched.{mean_at}
use Rattle.prediction.specs.Block.{with_residual, start_of}
use Rattle.prediction.proofs.Facts.{block_same, inner_end, of_inner}
use Rattle.prediction.proofs.write_moved.Goals as goal

reads : (z : ℤ) → FitsSigned w32 z → to_z w32 (of_z w32 z) ≡ z
reads z h = to_z-of_z w32 z h

pub write_rows-requires : goal.write_rows-requires
write_rows-requires c =
    let q = c.args.plane in
    let t = c.args.t in
    let first = sym (c.in-Some-Some.ensures ∙ ap₂ (start_of q) (reads t.x1 (search rules)) (reads t.y1 (search rules))) in
    let second = sym (c.in-Some-Some.ensures' ∙ ap₂ (start_of q) (reads t.x2 (search rules)) (reads t.y2 (search rules))) in
    let i = inner_end q t.x1 t.y1 _ first in
    let j = inner_end q t.x2 t.y2 _ second in
    (c.requires.0, omega (arith, i, c.requires.1.end), omega (arith, j, c.requires.1.end), c.requires.3)

pub returns-in-Some-Some : goal.returns-in-Some-Some
returns-in-Some-Some c =
    let q = c.args.plane in
    let t = c.args.t in
    let first = sym (c.in-Some-Some.ensures ∙ ap₂ (start_of q) (reads t.x1 (search rules)) (reads t.y1 (search rules))) in
    let second = sym (c.in-Some-Some.ensures' ∙ ap₂ (start_of q) (reads t.x2 (search rules)) (reads t.y2 (search rules))) in
    c.write_rows.ensures
    ∙ block_same _ (λ k r. with_residual c.args.residual.now (r * 8 + k) (mean_at q c.args.source.now t k r)) c.args.corner (8 * q.across) c.args.new.now
    (λ k r h l. ap (with_residual c.args.residual.now (r * 8 + k)) (of_inner c.args.source.now k r h l q t _ _ first second))

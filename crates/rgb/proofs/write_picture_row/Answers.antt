-- `rgb::write_picture_row` meets its contract. Assumes nothing.
use Prim.Native.Nat.{ℕ}
use mathlib.Core.Path.{◌∙◌, subst}
use Rattle.rgb.specs.Sums.{RunOf}
use Rattle.rgb.proofs.Rows.{picture_row_law}
use Rattle.rgb.proofs.write_picture_row.Goals as goal

pub returns : goal.returns
returns c =
    let q = c.args in
    c.write_row.ensures
    ∙ picture_row_law q.format q.w q.h q.planes.now c.requires.5 q.y c.row_of-a.result c.row_of-b.result c.row_of-c.result c.row_of-a.ensures
    (subst (λ (n : ℕ). RunOf q.format q.w q.h 1 n c.row_of-b.result) c.chroma_row-v.ensures c.row_of-b.ensures)
    (subst (λ (n : ℕ). RunOf q.format q.w q.h 2 n c.row_of-c.result) c.chroma_row-v.ensures c.row_of-c.ensures)

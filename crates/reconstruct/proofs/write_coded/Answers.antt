-- `reconstruct::write_coded` meets its contract.
-- Assumes nothing.
use mathlib.Core.Path.{sym, ap, ◌∙◌, subst}
use mathlib.Core.List.{List}
use Prim.Native.Nat.{◌*◌}
use lib.IntN.{ℤ}
use lib.ListN.{get_or}
use mir.Syntax.{w16}
use Rattle.numeric.proofs.Known.{back}
use Rattle.geometry.specs.Sizes.{across}
use Rattle.geometry.specs.Frame.{InFrame}
use Rattle.geometry.specs.Sample.{sample_at}
use Rattle.block_record.specs.Record.{InRange}
use Rattle.transform.specs.Residual.{residual}
use Rattle.prediction.specs.Predicted.{summed}
use Rattle.ways.specs.Corner.{block_at}
use Rattle.geometry.proofs.RasterLaws.{number_of_block}
use Rattle.reconstruct.specs.Picture.{type_of, block_residual}
use Rattle.reconstruct.specs.Lent.{matrix_in}
use borrow.Author.Rules.{rules}
use Rattle.reconstruct.proofs.write_coded.Goals as goal

pub residual_of-requires : goal.residual_of-requires
residual_of-requires c =
    let in_frame : InFrame c.args.format c.args.w c.args.h c.block_in-b.result =
    subst (InFrame c.args.format c.args.w c.args.h) (sym c.block_in-b.ensures) (number_of_block c.args.format c.args.w c.args.h c.args.n c.requires.2).0 in
    let in_range : InRange c.unpack-r.result =
    subst InRange (sym c.unpack-r.ensures) c.requires.4 in
    (c.requires.5, c.requires.6, (in_frame).of_three, (in_range).qi_index, search rules)

pub write_block-requires : goal.write_block-requires
write_block-requires c =
    let in_frame : InFrame c.args.format c.args.w c.args.h c.block_in-b.result =
    subst (InFrame c.args.format c.args.w c.args.h) (sym c.block_in-b.ensures) (number_of_block c.args.format c.args.w c.args.h c.args.n c.requires.2).0 in
    let in_range : InRange c.unpack-r.result =
    subst InRange (sym c.unpack-r.ensures) c.requires.4 in
    (c.requires.0, c.requires.1, in_frame, (in_range).prediction, c.requires.7, c.requires.8, c.requires.9, c.residual_of.auto.out)

pub returns : goal.returns
unfolding block_residual
returns c = let m = matrix_in c.args.matrices.now in
    let l = c.residual_of.ensures
    ∙ ap (λ (d : ℤ). residual c.args.coefs.now (c.args.k * 64) d c.args.last (get_or (m (type_of c.unpack-r.result.prediction) c.block_in-b.result.plane 0) 0 0) (m (type_of c.unpack-r.result.prediction) c.block_in-b.result.plane c.unpack-r.result.qi_index)) (back w16 c.args.dc c.ranges.dc.sfits) in
    c.write_block.ensures
    ∙ ap (λ (l : List ℤ). block_at (summed c.args.format c.args.w c.args.h c.args.golden.now c.args.previous.now l c.unpack-r.result.prediction c.block_in-b.result) (sample_at c.args.format c.args.w c.args.h c.block_in-b.result 0 0) (8 * across c.args.format c.args.w c.block_in-b.result.plane) c.args.new.now) l
    ∙ (λ i. block_at (summed c.args.format c.args.w c.args.h c.args.golden.now c.args.previous.now
    (residual c.args.coefs.now (c.args.k * 64) c.args.dc c.args.last (get_or (m (type_of (c.unpack-r.ensures i).prediction) (c.block_in-b.ensures i).plane 0) 0 0) (m (type_of (c.unpack-r.ensures i).prediction) (c.block_in-b.ensures i).plane (c.unpack-r.ensures i).qi_index)) (c.unpack-r.ensures i).prediction (c.block_in-b.ensures i))
    (sample_at c.args.format c.args.w c.args.h (c.block_in-b.ensures i) 0 0) (8 * across c.args.format c.args.w (c.block_in-b.ensures i).plane) c.args.new.now)

-- `reconstruct::reconstruct` meets its contract.
-- Assumes nothing.
use mathlib.Core.Path.{◌≡◌, ap, ◌∙◌}
use mathlib.Core.List.{map}
use native.Mathlib.Omega.{arith}
use lib.ListN.{length, take, length-replicate}
use lib.IntN.{pos}
use Rattle.geometry.specs.Sizes.{across, up, blocks_of}
use Rattle.block_record.specs.Packed.{unpacked}
use Rattle.dc_prediction.specs.Planes.{predicted_dc}
use Rattle.loop_filter.specs.Filter.{filtered}
use Rattle.loop_filter.specs.Flags.{coded_by}
use Rattle.ways.specs.Loops.{over}
use Rattle.geometry.specs.Raster.{block_no}
use Rattle.ways.specs.Ways.{filter_all}
use Rattle.reconstruct.specs.Picture.{gathered, dc_of, sample_of}
use Rattle.reconstruct.specs.Lent.{blocks_in, matrix_in, put_block}
use Rattle.reconstruct.proofs.Whole.{whole}
use Rattle.reconstruct.proofs.reconstruct.Goals as goal

pub gather_dc-requires : goal.gather_dc-requires
gather_dc-requires c =
    let dc_long : length c.args.dc.now ≡ blocks_of c.args.format c.args.w c.args.h =
    ap length c.requires.3 ∙ length-replicate (blocks_of c.args.format c.args.w c.args.h) (pos 0) in
    (c.requires.2.coded_long, c.requires.2.coefs_long, λ n m. let h = c.requires.2.blocks.in_frame n m in let l = dc_long in omega arith)

pub write_blocks-requires : goal.write_blocks-requires
unfolding dc_of
write_blocks-requires c =
    let dc_long : length c.args.dc.now ≡ blocks_of c.args.format c.args.w c.args.h =
    ap length c.requires.3 ∙ length-replicate (blocks_of c.args.format c.args.w c.args.h) (pos 0) in
    let e = c.predict_frame_dc.ensures
    ∙ ap (predicted_dc (map unpacked c.args.records.now) (across c.args.format c.args.w 0) (up c.args.format c.args.h 0) (across c.args.format c.args.w 1) (up c.args.format c.args.h 1))
    (c.gather_dc.ensures ∙ ap (gathered (take c.args.count c.args.coded.now) c.args.coefs.now) c.requires.3) in
    (c.requires.0, c.requires.1, c.requires.2, e, c.predict_frame_dc.auto.dc ∙ c.gather_dc.auto.dc ∙ dc_long, c.copy.auto.dst ∙ c.requires.5, c.requires.6, c.requires.7)

pub returns : goal.returns
unfolding dc_of
returns c = let bs = blocks_in c.args.records.now c.args.coded.now c.args.count c.args.coefs.now c.args.lasts.now in
    let e = c.predict_frame_dc.ensures
    ∙ ap (predicted_dc (map unpacked c.args.records.now) (across c.args.format c.args.w 0) (up c.args.format c.args.h 0) (across c.args.format c.args.w 1) (up c.args.format c.args.h 1))
    (c.gather_dc.ensures ∙ ap (gathered (take c.args.count c.args.coded.now) c.args.coefs.now) c.requires.3) in record {
      after = c.filter_frame.ensures
          ∙ ap (filter_all c.args.format c.args.w c.args.h (coded_by c.args.format c.args.w c.args.h c.args.records.now) (filtered c.args.limit))
          (c.write_blocks.ensures
          ∙ ap (over (map (block_no c.args.format c.args.w c.args.h) (take c.args.count c.args.coded.now)) (put_block c.args.format c.args.w c.args.h (sample_of c.args.format c.args.w c.args.h bs (matrix_in c.args.matrices.now) c.args.golden.now c.args.previous.now))) c.copy.ensures)
          ∙ whole c.args.format c.args.w c.args.h c.args.records.now c.args.coded.now c.args.count c.args.coefs.now c.args.lasts.now (matrix_in c.args.matrices.now) c.args.limit c.args.golden.now c.args.previous.now c.requires.2.blocks c.requires.7;
      dc_after = e;
    }

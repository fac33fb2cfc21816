use mathlib.Core.Path.{refl, sym, ap, ◌∙◌}
use mathlib.Core.List.{List}
use Prim.Native.Nat.{ℕ, ◌*◌, ◌<◌}
use native.Mathlib.Omega.{arith}
use lib.IntN.{ℤ, pos}
use lib.ListN.{length, get_or}
use mir.Syntax.{w16}
use Rattle.numeric.proofs.Known.{back}
use Rattle.geometry.specs.Sizes.{across, blocks_of}
use Rattle.geometry.specs.Sample.{sample_at}
use Rattle.block_record.specs.Record.{InRange}
use Rattle.block_record.specs.Packed.{unpacked}
use Rattle.prediction.specs.Predicted.{summed}
use Rattle.ways.specs.Loops.{over}
use Rattle.ways.specs.Corner.{block_at}
use Rattle.geometry.specs.Raster.{block_no}
use Rattle.block_walk.proofs.Bands.{no_block}
use Rattle.reconstruct.specs.Picture.{block_residual, sample_of}
use Rattle.reconstruct.specs.Lent.{blocks_in, matrix_in, put_block}
use Rattle.reconstruct.proofs.Facts.{number_below, in_range, coded_sample, first_turn}
use borrow.Author.Rules.{rules}
use Rattle.reconstruct.proofs.write_blocks.Goals as goal

pub loop-k-init : goal.loop-k-init
unfolding over
loop-k-init c = (omega arith, refl, refl, no_block c.args.format c.args.w c.args.h)

pub offset_bounds-records-i : goal.offset_bounds-records-i
offset_bounds-records-i c =
    let below : get_or c.args.coded.now c.loop-k.k 0 < blocks_of c.args.format c.args.w c.args.h =
    number_below c.args.format c.args.w c.args.h c.args.records.now c.args.coded.now c.args.count c.args.coefs.now c.args.lasts.now c.requires.2.coded_long c.requires.2.blocks c.loop-k.k c.loop-k-test.true in
    let h = below in let m : get_or c.args.coded.now c.loop-k.k 0 < length c.args.records.now = omega arith in search rules

pub bounds-records-i : goal.bounds-records-i
bounds-records-i c =
    let below : get_or c.args.coded.now c.loop-k.k 0 < blocks_of c.args.format c.args.w c.args.h =
    number_below c.args.format c.args.w c.args.h c.args.records.now c.args.coded.now c.args.count c.args.coefs.now c.args.lasts.now c.requires.2.coded_long c.requires.2.blocks c.loop-k.k c.loop-k-test.true in
    omega (arith, below, c.requires.2.records_long)

pub offset_bounds-dc-i : goal.offset_bounds-dc-i
offset_bounds-dc-i c =
    let below : get_or c.args.coded.now c.loop-k.k 0 < blocks_of c.args.format c.args.w c.args.h =
    number_below c.args.format c.args.w c.args.h c.args.records.now c.args.coded.now c.args.count c.args.coefs.now c.args.lasts.now c.requires.2.coded_long c.requires.2.blocks c.loop-k.k c.loop-k-test.true in
    let h = below in let m : get_or c.args.coded.now c.loop-k.k 0 < length c.args.dc.now = omega arith in search rules

pub bounds-dc-i : goal.bounds-dc-i
bounds-dc-i c =
    let below : get_or c.args.coded.now c.loop-k.k 0 < blocks_of c.args.format c.args.w c.args.h =
    number_below c.args.format c.args.w c.args.h c.args.records.now c.args.coded.now c.args.count c.args.coefs.now c.args.lasts.now c.requires.2.coded_long c.requires.2.blocks c.loop-k.k c.loop-k-test.true in
    omega (arith, below, c.requires.4)

pub band_with-band-requires : goal.band_with-band-requires
band_with-band-requires c =
    let below : get_or c.args.coded.now c.loop-k.k 0 < blocks_of c.args.format c.args.w c.args.h =
    number_below c.args.format c.args.w c.args.h c.args.records.now c.args.coded.now c.args.count c.args.coefs.now c.args.lasts.now c.requires.2.coded_long c.requires.2.blocks c.loop-k.k c.loop-k-test.true in
    (c.requires.0, c.requires.1, c.loop-k.invariant.3, below)

pub write_coded-requires : goal.write_coded-requires
write_coded-requires c =
    let below : get_or c.args.coded.now c.loop-k.k 0 < blocks_of c.args.format c.args.w c.args.h =
    number_below c.args.format c.args.w c.args.h c.args.records.now c.args.coded.now c.args.count c.args.coefs.now c.args.lasts.now c.requires.2.coded_long c.requires.2.blocks c.loop-k.k c.loop-k-test.true in
    let ranged : InRange (unpacked (get_or c.args.records.now (get_or c.args.coded.now c.loop-k.k 0) 0)) =
    in_range c.args.format c.args.w c.args.h c.args.records.now c.args.coded.now c.args.count c.args.coefs.now c.args.lasts.now c.requires.2.coded_long c.requires.2.blocks c.loop-k.k c.loop-k-test.true in
    (c.requires.0, c.requires.1, below, c.band_with-band.ensures, ranged, omega (arith, c.requires.2.coefs_long, c.loop-k-test.true), c.requires.2.matrices_long, c.loop-k.invariant.1 ∙ c.requires.5, c.requires.6, c.requires.7)

pub loop-k-preserved : goal.loop-k-preserved
loop-k-preserved c =
    -- the samples as the picture has them
    let samples = sample_of c.args.format c.args.w c.args.h (blocks_in c.args.records.now c.args.coded.now c.args.count c.args.coefs.now c.args.lasts.now) (matrix_in c.args.matrices.now) c.args.golden.now c.args.previous.now in
    let n = get_or c.args.coded.now c.loop-k.k 0 in
    let b = block_no c.args.format c.args.w c.args.h n in
    let u = unpacked (get_or c.args.records.now n 0) in
    let put : List ℕ → (ℕ → ℕ → ℕ) → List ℕ = λ xs f. block_at f (sample_at c.args.format c.args.w c.args.h b 0 0) (8 * across c.args.format c.args.w b.plane) xs in
    let sums : ℤ → ℕ → ℕ → ℕ = λ d. summed c.args.format c.args.w c.args.h c.args.golden.now c.args.previous.now (block_residual (matrix_in c.args.matrices.now) c.args.coefs.now c.loop-k.k d (get_or c.args.lasts.now c.loop-k.k 0) u b.plane) u.prediction b in
    let d = back w16 (get_or c.args.dc.now n (pos 0)) c.value-1.given in
    let e = coded_sample c.args.format c.args.w c.args.h c.args.records.now c.args.coded.now c.args.count c.args.coefs.now c.args.lasts.now c.requires.2.coded_long c.requires.2.blocks c.loop-k.k c.loop-k-test.true (matrix_in c.args.matrices.now) c.args.golden.now c.args.previous.now c.args.dc.now c.requires.3 in (
      omega (arith, c.loop-k-test.true),
      c.write_coded.auto.new ∙ c.loop-k.invariant.1,
      c.write_coded.ensures
          ∙ ap (λ (z : ℤ). put c.loop-k.new (sums z)) d
          ∙ ap (put c.loop-k.new) e
          ∙ ap (put_block c.args.format c.args.w c.args.h samples b) c.loop-k.invariant.2
          ∙ sym (first_turn c.args.coded.now c.args.count c.requires.2.coded_long (block_no c.args.format c.args.w c.args.h) (put_block c.args.format c.args.w c.args.h samples) c.args.new.now c.loop-k.k c.loop-k-test.true),
      c.band_with-band.ensures.band,
    )

-- `prediction::write_block` meets its contract.
-- Assumes nothing.
use mathlib.Core.Path.{◌≡◌, ap, ◌∙◌}
use Prim.Native.Nat.{ℕ, ◌+◌, ◌*◌, ◌≤◌, ◌<◌}
use native.Mathlib.Omega.{arith}
use lib.ListN.{length}
use Rattle.geometry.specs.declared.Plane.{Plane}
use Rattle.geometry.specs.Sizes.{across, blocks_of, plane_of}
use Rattle.geometry.specs.Frame.{InFrame}
use Rattle.geometry.specs.Sample.{sample_at}
use Rattle.ways.specs.Corner.{block_at}
use Rattle.prediction.specs.Predicted.{summed}
use Rattle.prediction.specs.Block.{with_residual}
use Rattle.fetches.specs.Fetched.{Lies}
use Rattle.prediction.proofs.Facts.{block_same, of_grey, sum_none, sum_previous, sum_golden, frame_lies, corner_end}
use Rattle.prediction.proofs.write_block.Goals as goal

pub write_rows-requires : goal.write_rows-requires
write_rows-requires c =
    let q : Plane =
    c.plane_of-plane.result in
    let in_frame : InFrame c.args.format c.args.w c.args.h c.args.b =
    c.requires.2 in
    let plane_is : q ≡ plane_of c.args.format c.args.w c.args.h c.args.b.plane =
    c.plane_of-plane.ensures in
    let row_is : 8 * q.across ≡ 8 * across c.args.format c.args.w c.args.b.plane =
    ap (λ (q : Plane). 8 * q.across) plane_is in
    let room : c.sample_offset-corner.result + 7 * (8 * q.across) + 8 ≤ length c.args.new.now =
    let t = corner_end c.args.format c.args.w c.args.h c.args.b c.requires.0 c.requires.1 in_frame in
    let e = row_is in
    omega (arith, t, e, c.sample_offset-corner.ensures.0, c.requires.4) in
    (room, omega arith, omega arith, c.requires.7)

pub write_moved-requires : goal.write_moved-requires
write_moved-requires c =
    let q : Plane =
    c.plane_of-plane.result in
    let in_frame : InFrame c.args.format c.args.w c.args.h c.args.b =
    c.requires.2 in
    let plane_is : q ≡ plane_of c.args.format c.args.w c.args.h c.args.b.plane =
    c.plane_of-plane.ensures in
    let row_is : 8 * q.across ≡ 8 * across c.args.format c.args.w c.args.b.plane =
    ap (λ (q : Plane). 8 * q.across) plane_is in
    let lies : (n : ℕ) → n ≡ 64 * blocks_of c.args.format c.args.w c.args.h → Lies q n =
    λ n e. frame_lies c.args.format c.args.w c.args.h c.args.b c.requires.0 c.requires.1 in_frame q n plane_is e in
    let room : c.sample_offset-corner.result + 7 * (8 * q.across) + 8 ≤ length c.args.new.now =
    let t = corner_end c.args.format c.args.w c.args.h c.args.b c.requires.0 c.requires.1 in_frame in
    let e = row_is in
    omega (arith, t, e, c.sample_offset-corner.ensures.0, c.requires.4) in
    (room, lies _ c.requires.6, c.fetches_of-t.ensures.1, c.requires.7)

pub write_moved-requires-in-Golden : goal.write_moved-requires-in-Golden
write_moved-requires-in-Golden c =
    let q : Plane =
    c.plane_of-plane.result in
    let in_frame : InFrame c.args.format c.args.w c.args.h c.args.b =
    c.requires.2 in
    let plane_is : q ≡ plane_of c.args.format c.args.w c.args.h c.args.b.plane =
    c.plane_of-plane.ensures in
    let row_is : 8 * q.across ≡ 8 * across c.args.format c.args.w c.args.b.plane =
    ap (λ (q : Plane). 8 * q.across) plane_is in
    let lies : (n : ℕ) → n ≡ 64 * blocks_of c.args.format c.args.w c.args.h → Lies q n =
    λ n e. frame_lies c.args.format c.args.w c.args.h c.args.b c.requires.0 c.requires.1 in_frame q n plane_is e in
    let room : c.sample_offset-corner.result + 7 * (8 * q.across) + 8 ≤ length c.args.new.now =
    let t = corner_end c.args.format c.args.w c.args.h c.args.b c.requires.0 c.requires.1 in_frame in
    let e = row_is in
    omega (arith, t, e, c.sample_offset-corner.ensures.0, c.requires.4) in
    (room, lies _ c.requires.5, c.fetches_of-t-in-Golden.ensures.1, c.requires.7)

pub returns-in-None : goal.returns-in-None
returns-in-None c =
    let q : Plane =
    c.plane_of-plane.result in
    let plane_is : q ≡ plane_of c.args.format c.args.w c.args.h c.args.b.plane =
    c.plane_of-plane.ensures in
    let row_is : 8 * q.across ≡ 8 * across c.args.format c.args.w c.args.b.plane =
    ap (λ (q : Plane). 8 * q.across) plane_is in
    let block_is : (f : ℕ → ℕ → ℕ) → ((n r : ℕ) → n < 8 → r < 8 → f n r ≡ summed c.args.format c.args.w c.args.h c.args.golden.now c.args.previous.now c.args.residual.now c.args.p c.args.b n r)
    → block_at f c.sample_offset-corner.result (8 * q.across) c.args.new.now
    ≡ block_at (summed c.args.format c.args.w c.args.h c.args.golden.now c.args.previous.now c.args.residual.now c.args.p c.args.b) (sample_at c.args.format c.args.w c.args.h c.args.b 0 0) (8 * across c.args.format c.args.w c.args.b.plane) c.args.new.now =
    λ f h. let r = row_is in
    block_same f (summed c.args.format c.args.w c.args.h c.args.golden.now c.args.previous.now c.args.residual.now c.args.p c.args.b) c.sample_offset-corner.result (8 * q.across) c.args.new.now h
    ∙ (λ i. block_at (summed c.args.format c.args.w c.args.h c.args.golden.now c.args.previous.now c.args.residual.now c.args.p c.args.b) (c.sample_offset-corner.ensures.0 i) (r i) c.args.new.now) in
    c.write_rows.ensures
    ∙ block_is _ (λ n r hc hr. ap (with_residual c.args.residual.now (r * 8 + n)) (of_grey n r hc hr)
    ∙ sum_none c.args.format c.args.w c.args.h c.args.b c.args.golden.now c.args.previous.now c.args.residual.now c.args.p c.in-None.is n r)

pub returns-in-Previous : goal.returns-in-Previous
returns-in-Previous c =
    let q : Plane =
    c.plane_of-plane.result in
    let plane_is : q ≡ plane_of c.args.format c.args.w c.args.h c.args.b.plane =
    c.plane_of-plane.ensures in
    let row_is : 8 * q.across ≡ 8 * across c.args.format c.args.w c.args.b.plane =
    ap (λ (q : Plane). 8 * q.across) plane_is in
    let block_is : (f : ℕ → ℕ → ℕ) → ((n r : ℕ) → n < 8 → r < 8 → f n r ≡ summed c.args.format c.args.w c.args.h c.args.golden.now c.args.previous.now c.args.residual.now c.args.p c.args.b n r)
    → block_at f c.sample_offset-corner.result (8 * q.across) c.args.new.now
    ≡ block_at (summed c.args.format c.args.w c.args.h c.args.golden.now c.args.previous.now c.args.residual.now c.args.p c.args.b) (sample_at c.args.format c.args.w c.args.h c.args.b 0 0) (8 * across c.args.format c.args.w c.args.b.plane) c.args.new.now =
    λ f h. let r = row_is in
    block_same f (summed c.args.format c.args.w c.args.h c.args.golden.now c.args.previous.now c.args.residual.now c.args.p c.args.b) c.sample_offset-corner.result (8 * q.across) c.args.new.now h
    ∙ (λ i. block_at (summed c.args.format c.args.w c.args.h c.args.golden.now c.args.previous.now c.args.residual.now c.args.p c.args.b) (c.sample_offset-corner.ensures.0 i) (r i) c.args.new.now) in
    c.write_moved.ensures
    ∙ block_is _ (λ n r hc hr. sum_previous c.args.format c.args.w c.args.h c.args.b c.args.golden.now c.args.previous.now c.args.residual.now c.args.p _ (q) _ (plane_is) c.fetches_of-t.ensures.0 n r c.in-Previous.is)

pub returns-in-Golden : goal.returns-in-Golden
returns-in-Golden c =
    let q : Plane =
    c.plane_of-plane.result in
    let plane_is : q ≡ plane_of c.args.format c.args.w c.args.h c.args.b.plane =
    c.plane_of-plane.ensures in
    let row_is : 8 * q.across ≡ 8 * across c.args.format c.args.w c.args.b.plane =
    ap (λ (q : Plane). 8 * q.across) plane_is in
    let block_is : (f : ℕ → ℕ → ℕ) → ((n r : ℕ) → n < 8 → r < 8 → f n r ≡ summed c.args.format c.args.w c.args.h c.args.golden.now c.args.previous.now c.args.residual.now c.args.p c.args.b n r)
    → block_at f c.sample_offset-corner.result (8 * q.across) c.args.new.now
    ≡ block_at (summed c.args.format c.args.w c.args.h c.args.golden.now c.args.previous.now c.args.residual.now c.args.p c.args.b) (sample_at c.args.format c.args.w c.args.h c.args.b 0 0) (8 * across c.args.format c.args.w c.args.b.plane) c.args.new.now =
    λ f h. let r = row_is in
    block_same f (summed c.args.format c.args.w c.args.h c.args.golden.now c.args.previous.now c.args.residual.now c.args.p c.args.b) c.sample_offset-corner.result (8 * q.across) c.args.new.now h
    ∙ (λ i. block_at (summed c.args.format c.args.w c.args.h c.args.golden.now c.args.previous.now c.args.residual.now c.args.p c.args.b) (c.sample_offset-corner.ensures.0 i) (r i) c.args.new.now) in
    c.write_moved-in-Golden.ensures
    ∙ block_is _ (λ n r hc hr. sum_golden c.args.format c.args.w c.args.h c.args.b c.args.golden.now c.args.previous.now c.args.residual.now c.args.p _ (q) _ (plane_is) c.fetches_of-t-in-Golden.ensures.0 n r c.in-Golden.is)

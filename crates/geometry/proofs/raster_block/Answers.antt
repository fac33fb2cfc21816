-- `geometry::raster_block` meets its contract.
-- Assumes nothing.
use mathlib.Core.Path.{◌≡◌, ◌∙◌}
use Prim.Native.Nat.{ℕ, ◌-◌, ◌/◌, ◌%◌, ◌≤◌, ◌<◌}
use native.Mathlib.Omega.{arith}
use Rattle.geometry.specs.declared.Plane.{Plane}
use Rattle.geometry.specs.declared.PixelFormat.{PixelFormat}
use Rattle.geometry.specs.Frame.{block}
use Rattle.geometry.specs.Raster.{block_no}
use Rattle.geometry.proofs.SizeLaws.{before_luma, before_all}
use Rattle.geometry.proofs.RasterLaws.{first_number, number_in}
use Rattle.geometry.proofs.raster_block.Goals as goal

-- number n of plane p, which q is
abbrev In : PixelFormat → (w h n p : ℕ) → Plane → Type 0
In format w h n p q =
    (0 < q.across) × (q.offset / 64 ≤ n) × (block p ((n - q.offset / 64) % q.across) ((n - q.offset / 64) / q.across) ≡ block_no format w h n)

pub block_in-requires : goal.block_in-requires
block_in-requires c =
    let in-luma : In c.args.format c.args.w c.args.h c.args.n 0 c.plane_of.result =
    let e = first_number c.args.format c.args.w c.args.h 1 c.plane_of-cb.result c.plane_of-cb.ensures in
    number_in c.args.format c.args.w c.args.h 0 c.args.n c.plane_of.result (omega arith) c.plane_of.ensures (omega (arith, before_luma c.args.format c.args.w c.args.h)) (omega (arith, e, c.if-n-cb.true)) in
    let t = in-luma in (t.1, t.0)

pub returns-then-n-cb : goal.returns-then-n-cb
returns-then-n-cb c =
    let in-luma : In c.args.format c.args.w c.args.h c.args.n 0 c.plane_of.result =
    let e = first_number c.args.format c.args.w c.args.h 1 c.plane_of-cb.result c.plane_of-cb.ensures in
    number_in c.args.format c.args.w c.args.h 0 c.args.n c.plane_of.result (omega arith) c.plane_of.ensures (omega (arith, before_luma c.args.format c.args.w c.args.h)) (omega (arith, e, c.if-n-cb.true)) in
    c.block_in.ensures ∙ (in-luma).2

pub block_in-requires-then-n-cr : goal.block_in-requires-then-n-cr
block_in-requires-then-n-cr c =
    let in-cb : In c.args.format c.args.w c.args.h c.args.n 1 c.plane_of-cb.result =
    let e = first_number c.args.format c.args.w c.args.h 1 c.plane_of-cb.result c.plane_of-cb.ensures in
    let g = first_number c.args.format c.args.w c.args.h 2 c.plane_of-cr.result c.plane_of-cr.ensures in
    number_in c.args.format c.args.w c.args.h 1 c.args.n c.plane_of-cb.result (omega arith) c.plane_of-cb.ensures (omega (arith, e, c.if-n-cb.false)) (omega (arith, g, c.if-n-cr.true)) in
    let t = in-cb in (t.1, t.0)

pub returns-then-n-cr : goal.returns-then-n-cr
returns-then-n-cr c =
    let in-cb : In c.args.format c.args.w c.args.h c.args.n 1 c.plane_of-cb.result =
    let e = first_number c.args.format c.args.w c.args.h 1 c.plane_of-cb.result c.plane_of-cb.ensures in
    let g = first_number c.args.format c.args.w c.args.h 2 c.plane_of-cr.result c.plane_of-cr.ensures in
    number_in c.args.format c.args.w c.args.h 1 c.args.n c.plane_of-cb.result (omega arith) c.plane_of-cb.ensures (omega (arith, e, c.if-n-cb.false)) (omega (arith, g, c.if-n-cr.true)) in
    c.block_in-then-n-cr.ensures ∙ (in-cb).2

pub block_in-requires-2 : goal.block_in-requires-2
block_in-requires-2 c =
    let in-cr : In c.args.format c.args.w c.args.h c.args.n 2 c.plane_of-cr.result =
    let g = first_number c.args.format c.args.w c.args.h 2 c.plane_of-cr.result c.plane_of-cr.ensures in
    number_in c.args.format c.args.w c.args.h 2 c.args.n c.plane_of-cr.result (omega arith) c.plane_of-cr.ensures (omega (arith, g, c.if-n-cr.false)) (omega (arith, before_all c.args.format c.args.w c.args.h, c.requires.2)) in
    let t = in-cr in (t.1, t.0)

pub returns : goal.returns
returns c =
    let in-cr : In c.args.format c.args.w c.args.h c.args.n 2 c.plane_of-cr.result =
    let g = first_number c.args.format c.args.w c.args.h 2 c.plane_of-cr.result c.plane_of-cr.ensures in
    number_in c.args.format c.args.w c.args.h 2 c.args.n c.plane_of-cr.result (omega arith) c.plane_of-cr.ensures (omega (arith, g, c.if-n-cr.false)) (omega (arith, before_all c.args.format c.args.w c.args.h, c.requires.2)) in
    c.block_in-2.ensures ∙ (in-cr).2

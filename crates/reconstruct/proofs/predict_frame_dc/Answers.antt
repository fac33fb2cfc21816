-- `reconstruct::predict_frame_dc` meets its contract.
-- Assumes nothing.
use mathlib.Core.Path.{◌≡◌, ap}
use Prim.Native.Nat.{◌*◌}
use native.Mathlib.Omega.{arith}
use Rattle.geometry.specs.declared.Plane.{Plane}
use Rattle.geometry.specs.Sizes.{plane_blocks}
use Rattle.geometry.proofs.SizeLaws.{before_planes}
use Rattle.reconstruct.proofs.predict_frame_dc.Goals as goal

pub predict_dc-requires : goal.predict_dc-requires
predict_dc-requires c = let e : c.plane_of-luma.result.up * c.plane_of-luma.result.across ≡ plane_blocks c.args.format c.args.w c.args.h 0 = ap (λ (q : Plane). q.up * q.across) c.plane_of-luma.ensures in
    let g : c.plane_of-chroma.result.up * c.plane_of-chroma.result.across ≡ plane_blocks c.args.format c.args.w c.args.h 1 = ap (λ (q : Plane). q.up * q.across) c.plane_of-chroma.ensures in
    let t = (before_planes c.args.format c.args.w c.args.h).2 in
    (omega (arith, e, g, t, c.requires.2), omega (arith, e, g, t, c.requires.3))

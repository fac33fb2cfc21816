-- `geometry::plane_with` meets its contract. Assumes nothing.
use mathlib.Core.Path.{◌≡◌, ap}
use Prim.Native.Nat.{◌*◌}
use native.Mathlib.Omega.{arith}
use Rattle.geometry.specs.declared.Plane.{Plane}
use Rattle.geometry.specs.Sizes.{blocks_before}
use Rattle.geometry.proofs.SizeLaws.{before_luma, before_all}
use Rattle.geometry.proofs.plane_with.Goals as goal

pub returns-then-i-cb : goal.returns-then-i-cb
returns-then-i-cb c =
    let begins : (c.plane_of-cb.result.offset ≡ 64 * blocks_before c.args.format c.args.w c.args.h 1) × (c.plane_of-cr.result.offset ≡ 64 * blocks_before c.args.format c.args.w c.args.h 2) =
    (ap (λ (q : Plane). q.offset) c.plane_of-cb.ensures, ap (λ (q : Plane). q.offset) c.plane_of-cr.ensures) in
    let o = begins in
    (omega arith, omega (arith, before_luma c.args.format c.args.w c.args.h), omega (arith, c.if-i-cb.true))

pub returns : goal.returns
returns c =
    let begins : (c.plane_of-cb.result.offset ≡ 64 * blocks_before c.args.format c.args.w c.args.h 1) × (c.plane_of-cr.result.offset ≡ 64 * blocks_before c.args.format c.args.w c.args.h 2) =
    (ap (λ (q : Plane). q.offset) c.plane_of-cb.ensures, ap (λ (q : Plane). q.offset) c.plane_of-cr.ensures) in
    let o = begins in
    (omega arith, omega (arith, c.if-i-cr.false), omega (arith, c.requires.2, before_all c.args.format c.args.w c.args.h))

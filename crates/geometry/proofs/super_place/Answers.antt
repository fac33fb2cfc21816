-- `geometry::super_place` meets its contract. Assumes nothing.
use mathlib.Core.Path.{◌≡◌, ap, ◌∙◌}
use Prim.Native.Nat.{◌*◌}
use native.Mathlib.Omega.{arith}
use Rattle.geometry.specs.declared.Plane.{Plane}
use Rattle.geometry.specs.Sizes.{squares, plane_super_blocks}
use Rattle.geometry.proofs.SuperBlockLaws.{supers_before}
use Rattle.geometry.proofs.super_place.Goals as goal

pub returns-then-k-n : goal.returns-then-k-n
returns-then-k-n c =
    let counts : (c.super_blocks_in-n.result ≡ plane_super_blocks c.args.format c.args.w c.args.h 0) × (c.super_blocks_in-m.result ≡ plane_super_blocks c.args.format c.args.w c.args.h 1) = (
      c.super_blocks_in-n.ensures.0 ∙ ap (λ (q : Plane). squares 4 q.up * squares 4 q.across) c.plane_of-luma.ensures,
      c.super_blocks_in-m.ensures.0 ∙ ap (λ (q : Plane). squares 4 q.up * squares 4 q.across) c.plane_of-chroma.ensures,
    ) in
    let n = counts in
    let s = supers_before c.args.format c.args.w c.args.h in
    (omega arith, omega (arith, c.if-k-n.true), omega arith)

pub returns-then-j-m : goal.returns-then-j-m
returns-then-j-m c =
    let counts : (c.super_blocks_in-n.result ≡ plane_super_blocks c.args.format c.args.w c.args.h 0) × (c.super_blocks_in-m.result ≡ plane_super_blocks c.args.format c.args.w c.args.h 1) = (
      c.super_blocks_in-n.ensures.0 ∙ ap (λ (q : Plane). squares 4 q.up * squares 4 q.across) c.plane_of-luma.ensures,
      c.super_blocks_in-m.ensures.0 ∙ ap (λ (q : Plane). squares 4 q.up * squares 4 q.across) c.plane_of-chroma.ensures,
    ) in
    let n = counts in
    let s = supers_before c.args.format c.args.w c.args.h in
    (omega arith, omega (arith, c.if-j-m.true), omega (arith, c.if-k-n.false))

pub returns : goal.returns
returns c =
    let counts : (c.super_blocks_in-n.result ≡ plane_super_blocks c.args.format c.args.w c.args.h 0) × (c.super_blocks_in-m.result ≡ plane_super_blocks c.args.format c.args.w c.args.h 1) = (
      c.super_blocks_in-n.ensures.0 ∙ ap (λ (q : Plane). squares 4 q.up * squares 4 q.across) c.plane_of-luma.ensures,
      c.super_blocks_in-m.ensures.0 ∙ ap (λ (q : Plane). squares 4 q.up * squares 4 q.across) c.plane_of-chroma.ensures,
    ) in
    let n = counts in
    let s = supers_before c.args.format c.args.w c.args.h in
    (omega arith, omega (arith, c.requires.2, c.if-k-n.false, c.if-j-m.false), omega (arith, c.if-k-n.false, c.if-j-m.false))

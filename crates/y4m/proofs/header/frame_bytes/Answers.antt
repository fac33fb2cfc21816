-- `y4m::header::frame_bytes` meets its contract. Assumes nothing.
use Prim.Native.Nat.{◌*◌}
use native.Mathlib.Omega.{arith}
use mathlib.Core.Path.{◌≡◌, ap, ◌∙◌}
use Rattle.geometry.specs.declared.FrameSizes.{FrameSizes}
use Rattle.geometry.specs.declared.PixelFormat.{PixelFormat}
use Rattle.geometry.specs.Sizes.{blocks_of}
use Rattle.y4m.specs.Stream.{wide, high, frame_bytes}
use Rattle.y4m.proofs.Fitting.{fit, bytes_some}
use Rattle.y4m.proofs.header.frame_bytes.Goals as goal

pub sizes-requires : goal.sizes-requires
sizes-requires c = let f = fit c.args.n c.requires in (f.width.most, f.height.most)

pub returns : goal.returns
unfolding frame_bytes
returns c = let e : c.sizes.result.buffer ≡ frame_bytes c.args.n =
    ap (λ (x : FrameSizes). x.buffer) c.sizes.ensures ∙ ap (λ (x : PixelFormat). 64 * blocks_of x (wide c.args.n) (high c.args.n)) c.pixel_format-format.ensures in
    let b = bytes_some c.args.n c.requires in
    (e, omega (arith, b.0), omega (arith, b.1))

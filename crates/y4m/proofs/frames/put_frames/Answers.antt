use Prim.Native.Nat.{ℕ, ◌+◌, ◌*◌, ◌-◌}
use native.Mathlib.Omega.{arith}
use mathlib.Core.Path.{◌≡◌, refl, ap, ◌∙◌}
use native.Mathlib.Nat.{zero-mul, suc-mul}
use native.Mathlib.Numerals.{add-one}
use lib.ListN.{take, drop}
use Rattle.output.specs.Output.{spliced}
use Rattle.y4m.specs.Stream.{frame_bytes, frame_text}
use Rattle.y4m.specs.Film.{step}
use Rattle.y4m.proofs.FrameLaws.{frames_none, frames_more}
use Rattle.y4m.proofs.frames.put_frames.Goals as goal

pub loop-k-init : goal.loop-k-init
loop-k-init c = (omega arith, omega (arith, zero-mul (step c.args.n)), omega (arith, zero-mul (frame_bytes c.args.n)), refl, frames_none c.args.n c.args.frames.now c.args.count c.requires.2 c.args.at c.args.out.now)

pub loop-k-preserved : goal.loop-k-preserved
loop-k-preserved c = let w = step c.args.n in
    let b = frame_bytes c.args.n in
    let s : (c.loop-k.k + 1) * w ≡ c.loop-k.k * w + w = ap (λ (m : ℕ). m * w) (add-one c.loop-k.k) ∙ suc-mul c.loop-k.k w in
    let t : (c.loop-k.k + 1) * b ≡ c.loop-k.k * b + b = ap (λ (m : ℕ). m * b) (add-one c.loop-k.k) ∙ suc-mul c.loop-k.k b in (
      omega arith,
      omega (arith, c.loop-k.invariant.1, s, c.put_frame-place.ensures.value),
      omega (arith, c.loop-k.invariant.2, t, c.requires.1),
      c.out-1.given ∙ c.loop-k.invariant.3,
      frames_more c.args.n c.args.frames.now c.args.count c.requires.2 c.loop-k.k c.args.at c.loop-k.place c.loop-k.from c.args.out.now c.loop-k.out _ c.loop-k-test.true c.requires.3 c.loop-k.invariant.1 c.loop-k.invariant.2 c.loop-k.invariant.4
          (c.put_frame-place.ensures.out_after ∙ ap (λ (x : ℕ). spliced c.loop-k.place (frame_text c.args.n (take (c.loop-k.from + x - c.loop-k.from) (drop c.loop-k.from c.args.frames.now))) c.loop-k.out) c.requires.1),
    )

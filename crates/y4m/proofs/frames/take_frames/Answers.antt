use Prim.Native.Nat.{ℕ, ◌+◌, ◌*◌, ◌-◌}
use native.Mathlib.Omega.{arith}
use mathlib.Core.Path.{◌≡◌, refl, ap, ◌∙◌}
use native.Mathlib.Nat.{zero-mul, suc-mul}
use native.Mathlib.Numerals.{add-one}
use lib.ListN.{take, drop}
use borrow.Rule.Slice.PartMut.{put_mid}
use Rattle.y4m.specs.Stream.{frame_bytes, rows_of}
use Rattle.y4m.specs.Film.{step}
use Rattle.y4m.proofs.FrameLaws.{planes_none, planes_more}
use Rattle.y4m.proofs.frames.take_frames.Goals as goal

pub loop-k-init : goal.loop-k-init
loop-k-init c = (omega arith, omega (arith, zero-mul (step c.args.n)), omega (arith, zero-mul (frame_bytes c.args.n)), refl, planes_none c.args.n c.args.stream.now c.args.at c.args.count c.requires.2 c.args.planes.now)

pub loop-k-preserved : goal.loop-k-preserved
loop-k-preserved c = let w = step c.args.n in
    let b = frame_bytes c.args.n in
    let s : (c.loop-k.k + 1) * w ≡ c.loop-k.k * w + w = ap (λ (m : ℕ). m * w) (add-one c.loop-k.k) ∙ suc-mul c.loop-k.k w in
    let t : (c.loop-k.k + 1) * b ≡ c.loop-k.k * b + b = ap (λ (m : ℕ). m * b) (add-one c.loop-k.k) ∙ suc-mul c.loop-k.k b in (
      omega arith,
      omega (arith, c.loop-k.invariant.1, s, c.requires.1),
      omega (arith, c.loop-k.invariant.2, t, c.requires.1),
      c.planes-1.given.1 ∙ c.loop-k.invariant.3,
      ap (λ (x : ℕ). put_mid c.loop-k.to (c.loop-k.to + x - c.loop-k.to) c.loop-k.planes c.turn_frame.new.dst) c.requires.1
          ∙ planes_more c.args.n c.args.stream.now c.args.at c.args.count c.requires.2 c.loop-k.k c.loop-k.place c.loop-k.to c.args.planes.now c.loop-k.planes c.turn_frame.new.dst c.loop-k-test.true c.requires.3 c.loop-k.invariant.1 c.loop-k.invariant.2 c.loop-k.invariant.4
          (c.turn_frame.ensures ∙ ap (λ (x : ℕ). rows_of c.args.n (take (c.loop-k.place + 6 + x - (c.loop-k.place + 6)) (drop (c.loop-k.place + 6) c.args.stream.now))) c.requires.1),
    )

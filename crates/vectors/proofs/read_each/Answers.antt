use Prim.Native.Nat.{◌+◌}
use native.Mathlib.Omega.{arith}
use mathlib.Core.Path.{◌≡◌, ◌∙◌, subst}
use lib.ListN.{length}
use Rattle.bitstream.specs.Reading.{got}
use Rattle.block_record.specs.Record.{VectorInRange}
use Rattle.block_record.specs.Memory.{AllPacked, records_of}
use Rattle.vectors.specs.Vectors.{VectorState}
use Rattle.vectors.specs.Memory.{state_of}
use Rattle.vectors.specs.Start.{Waiting}
use Rattle.vectors.proofs.Records.{this, each_done, each_end, each_on, macro_through, step_next, step_refused, on_each, on_each_refused}
use Rattle.vectors.proofs.Start.{waiting_on}
use Rattle.bitstream.proofs.Clauses.{two}
use Rattle.vectors.proofs.read_each.Goals as goal

pub returns-in-Refused : goal.returns-in-Refused
returns-in-Refused c = two (λ a b. record { value = a; stored_state = b }) (on_each_refused c.read_number-step.new.records _ (c.loop-m.invariant.5 ∙ each_end c.args.format c.args.w c.args.h c.args.code c.args.modes.now c.args.packet.now (length c.args.modes.now) c.loop-m.m c.loop-m.place (state_of c.loop-m.records c.loop-m.last c.loop-m.last2) c.loop-m-test.true (step_refused _ c.read_number-step.ensures.value c.in-Refused.is)))

pub loop-m-preserved : goal.loop-m-preserved
loop-m-preserved c =
    let stepped : (this c.args.format c.args.w c.args.h c.args.code c.args.modes.now c.args.packet.now (length c.args.modes.now) c.loop-m.m c.loop-m.place (state_of c.loop-m.records c.loop-m.last c.loop-m.last2) ≡ got (state_of c.read_number-step.new.records c.in-Next.v c.in-Next.v2) c.in-Next.next) × AllPacked c.read_number-step.new.records =
    step_next c.read_number-step.new.records _ c.read_number-step.ensures.value c.read_number-step.ensures.stored_state c.in-Next.is in
    let goes_on : VectorInRange c.in-Next.v × VectorInRange c.in-Next.v2 × Waiting c.args.format c.args.w c.args.h (c.loop-m.m + 1) (records_of c.read_number-step.new.records) =
    let u = macro_through c.args.format c.args.w c.args.h c.args.code _ _ (state_of c.loop-m.records c.loop-m.last c.loop-m.last2) c.args.packet.now c.loop-m.place c.loop-m.invariant.2 c.loop-m.invariant.3 (stepped).0 in let k = waiting_on c.args.format c.args.w c.args.h c.loop-m.m (omega (arith, c.loop-m-test.true, c.requires.3)) (records_of c.loop-m.records) c.loop-m.invariant.6 u.0.motion in subst (λ (s : VectorState). VectorInRange s.last × VectorInRange s.last2 × Waiting c.args.format c.args.w c.args.h (c.loop-m.m + 1) s.records) u.2 (u.1.last, u.1.last2, k) in
    let g = stepped in let s = goes_on in (c.read_number-step.auto.records ∙ c.loop-m.invariant.0, omega (arith, c.loop-m-test.true), s.0, s.1, g.1, c.loop-m.invariant.5 ∙ each_on c.args.format c.args.w c.args.h c.args.code c.args.modes.now c.args.packet.now (length c.args.modes.now) c.loop-m.m c.loop-m.place (state_of c.loop-m.records c.loop-m.last c.loop-m.last2) c.loop-m-test.true g.0, s.2)

pub returns : goal.returns
returns c = two (λ a b. record { value = a; stored_state = b }) (on_each _ _ (c.loop-m.invariant.5 ∙ each_done c.args.format c.args.w c.args.h c.args.code c.args.modes.now c.args.packet.now (length c.args.modes.now) c.loop-m.m c.loop-m.place (state_of c.loop-m.records c.loop-m.last c.loop-m.last2) c.loop-m-test.false) c.loop-m.invariant.4)

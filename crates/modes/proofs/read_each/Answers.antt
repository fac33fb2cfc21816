use Prim.Native.Nat.{ℕ, ◌<◌}
use native.Mathlib.Omega.{arith}
use mathlib.Core.Path.{◌≡◌, ap, ◌∙◌}
use native.Mathlib.Numerals.{add-one}
use mathlib.Core.List.{List}
use lib.ListN.{length, take, length-set}
use lib.Seq.{take-suc-set, take_all}
use Rattle.bitstream.specs.Reading.{got}
use Rattle.bitstream.proofs.Ends.{on_list, on_refusal}
use Rattle.modes.specs.Modes.{mode_of}
use Rattle.modes.proofs.Facts.{mode_is, mode_refused, modes_done, modes_end, modes_on}
use Rattle.bitstream.proofs.Clauses.{two}
use Rattle.modes.proofs.read_each.Goals as goal

pub returns-in-Refused : goal.returns-in-Refused
returns-in-Refused c = two (λ a b. record { value = a; stored = b }) (on_refusal _ _ (c.loop-m.invariant.3 ∙ modes_end c.args.scheme c.args.alphabet.now c.args.flags.now c.args.packet.now (length c.args.modes.now) c.loop-m.m c.loop-m.place (take c.loop-m.m c.loop-m.modes) c.loop-m-test.true (mode_refused (mode_of c.args.scheme c.args.alphabet.now c.args.flags.now c.loop-m.m c.args.packet.now c.loop-m.place) c.read_mode_of-one.ensures c.in-Refused.is)))

pub loop-m-preserved : goal.loop-m-preserved
loop-m-preserved c =
    let mode-got : mode_of c.args.scheme c.args.alphabet.now c.args.flags.now c.loop-m.m c.args.packet.now c.loop-m.place ≡ got c.in-Is.v c.in-Is.next =
    mode_is (mode_of c.args.scheme c.args.alphabet.now c.args.flags.now c.loop-m.m c.args.packet.now c.loop-m.place) c.read_mode_of-one.ensures c.in-Is.is in
    let h : c.loop-m.m < length c.loop-m.modes = omega (arith, c.loop-m-test.true, c.loop-m.invariant.1) in (simp length-set c.loop-m.invariant.0, simp length-set c.loop-m.invariant.1, omega (arith, c.loop-m-test.true), rw (add-one c.loop-m.m, take-suc-set c.loop-m.modes c.loop-m.m c.in-Is.v h) (rw add-one at (c.loop-m.invariant.3 ∙ modes_on c.args.scheme c.args.alphabet.now c.args.flags.now c.args.packet.now (length c.args.modes.now) c.loop-m.m c.loop-m.place (take c.loop-m.m c.loop-m.modes) c.loop-m-test.true (mode-got))))

pub returns : goal.returns
returns c = two (λ a b. record { value = a; stored = b }) (on_list _ _ (c.loop-m.invariant.3 ∙ modes_done c.args.scheme c.args.alphabet.now c.args.flags.now c.args.packet.now (length c.args.modes.now) c.loop-m.m c.loop-m.place (take c.loop-m.m c.loop-m.modes) c.loop-m-test.false ∙ ap (λ (x : List ℕ). got x c.loop-m.place) (take_all c.loop-m.m c.loop-m.modes (omega (arith, c.loop-m.invariant.1, c.loop-m-test.false)))))

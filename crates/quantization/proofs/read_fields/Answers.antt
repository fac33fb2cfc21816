use mathlib.Core.List.{List}
use Prim.Native.Nat.{ℕ, ◌≤◌}
use native.Mathlib.Omega.{arith}
use mathlib.Core.Path.{◌≡◌, refl, ap, ◌∙◌}
use lib.ListN.{length, length-set}
use lib.Pow.{pow_mono}
use lib.Seq.{take_all}
use Rattle.bitstream.specs.Reading.{got, field}
use Rattle.bitstream.proofs.Fields.{read_got, read_refused, field_lt}
use Rattle.quantization.proofs.Loops.{all_refused, all_got}
use Rattle.bitstream.proofs.Loops.{times_stored, times_all, times_start, times_refused}
use borrow.Author.Rules.{rules}
use Rattle.bitstream.proofs.Clauses.{two}
use Rattle.quantization.proofs.read_fields.Goals as goal

pub loop-k-init : goal.loop-k-init
loop-k-init c = (search rules, refl, times_start (field c.args.width) c.args.packet.now c.args.at (length c.args.out.now))

pub returns-in-Refused : goal.returns-in-Refused
returns-in-Refused c = let f = read_refused (field c.args.width c.args.packet.now c.loop-k.place) c.read-one.ensures c.in-Refused.is in two (λ a b. record { value = a; filled = b }) (all_refused _ _ (c.loop-k.invariant.2 ∙ times_refused _ _ _ (length c.args.out.now) _ _ (omega arith) f))

pub overflow_cast-out : goal.overflow_cast-out
overflow_cast-out c =
    let one_got : field c.args.width c.args.packet.now c.loop-k.place ≡ got c.in-Got.value c.in-Got.next =
    read_got (field c.args.width c.args.packet.now c.loop-k.place) c.read-one.ensures c.in-Got.is in
    let w : c.args.width ≤ 16 = c.requires.1 in
    omega (arith, field_lt _ _ _ (one_got), pow_mono w)

pub loop-k-preserved : goal.loop-k-preserved
loop-k-preserved c =
    let one_got : field c.args.width c.args.packet.now c.loop-k.place ≡ got c.in-Got.value c.in-Got.next =
    read_got (field c.args.width c.args.packet.now c.loop-k.place) c.read-one.ensures c.in-Got.is in (
      omega arith,
      simp length-set c.loop-k.invariant.1,
      c.loop-k.invariant.2 ∙ times_stored _ _ _ (length c.args.out.now) _ _ (omega arith) c.loop-k-test.true (one_got),
    )

pub returns : goal.returns
returns c = two (λ a b. record { value = a; filled = b }) (all_got _ c.loop-k.out (c.loop-k.invariant.2 ∙ times_all _ _ _ (length c.args.out.now) _ _ (omega arith) ∙ ap (λ (x : List ℕ). got x c.loop-k.place) (take_all c.loop-k.k c.loop-k.out c.loop-k-test.false)))

use Prim.Native.Nat.{ℕ, ◌+◌, ◌-◌, ◌≤◌, ◌<◌}
use native.Mathlib.Omega.{arith}
use mathlib.Core.Path.{◌≡◌, refl, sym, ap, ◌∙◌}
use mathlib.Core.List.{List}
use lib.ListN.{length}
use Rattle.bitstream.specs.Reading.{got}
use Rattle.bitstream.proofs.Fields.{read_got, read_refused}
use Rattle.runs.specs.Runs.{next_bit, run, fresh}
use Rattle.runs.proofs.Facts.{bit_most, run_some, Goes, goes_start, goes_done, goes_bit, goes_end, goes_past, goes_run}
use Rattle.bitstream.proofs.Ends.{on_list, on_refusal}
use borrow.Author.Rules.{rules}
use Rattle.bitstream.proofs.Clauses.{two}
use Rattle.runs.proofs.read_string.Goals as goal

pub loop-filled-init : goal.loop-filled-init
loop-filled-init c = (refl, refl, search rules, search rules, goes_start c.args.code c.args.packet.now c.args.at (length c.args.out.now) c.args.out.now)

pub returns-in-Refused : goal.returns-in-Refused
returns-in-Refused c = two (λ a b. record { value = a; stored = b }) (on_refusal _ _ (goes_bit c.args.code c.args.packet.now c.args.at (length c.args.out.now) c.loop-filled.out c.loop-filled.filled c.loop-filled.value c.loop-filled.fresh c.loop-filled.place c.loop-filled.invariant.4 c.loop-filled.invariant.1 c.loop-filled-test.true (read_refused (next_bit c.loop-filled.fresh c.loop-filled.value c.args.packet.now c.loop-filled.place) c.next_bit-bit.ensures c.in-Refused.is)))

pub returns-in-Refused-one : goal.returns-in-Refused-one
returns-in-Refused-one c =
    let bit-got : next_bit c.loop-filled.fresh c.loop-filled.value c.args.packet.now c.loop-filled.place ≡ got c.in-Got.b c.in-Got.first =
    read_got (next_bit c.loop-filled.fresh c.loop-filled.value c.args.packet.now c.loop-filled.place) c.next_bit-bit.ensures c.in-Got.is in two (λ a b. record { value = a; stored = b }) (on_refusal _ _ (goes_end c.args.code c.args.packet.now c.args.at (length c.args.out.now) c.loop-filled.out c.loop-filled.filled c.loop-filled.value c.loop-filled.fresh c.loop-filled.place c.loop-filled.invariant.4 c.loop-filled.invariant.1 c.loop-filled-test.true (bit-got) (read_refused (run c.args.code c.args.packet.now c.in-Got.first) c.read_run-one.ensures c.in-Refused-one.is)))

pub returns-then-n-filled : goal.returns-then-n-filled
returns-then-n-filled c =
    let bit-got : next_bit c.loop-filled.fresh c.loop-filled.value c.args.packet.now c.loop-filled.place ≡ got c.in-Got.b c.in-Got.first =
    read_got (next_bit c.loop-filled.fresh c.loop-filled.value c.args.packet.now c.loop-filled.place) c.next_bit-bit.ensures c.in-Got.is in
    let run_got : run c.args.code c.args.packet.now c.in-Got.first ≡ got c.in-Got-one.r c.in-Got-one.next =
    read_got (run c.args.code c.args.packet.now c.in-Got.first) c.read_run-one.ensures c.in-Got-one.is in two (λ a b. record { value = a; stored = b }) (on_refusal _ _ (goes_past c.args.code c.args.packet.now c.args.at (length c.args.out.now) c.loop-filled.out c.loop-filled.filled c.loop-filled.value c.loop-filled.fresh c.loop-filled.place c.loop-filled.invariant.4 c.loop-filled.invariant.1 c.loop-filled-test.true (bit-got) (run_got) c.if-n-filled.true))

pub overflow_cast-b : goal.overflow_cast-b
overflow_cast-b c =
    let bit-got : next_bit c.loop-filled.fresh c.loop-filled.value c.args.packet.now c.loop-filled.place ≡ got c.in-Got.b c.in-Got.first =
    read_got (next_bit c.loop-filled.fresh c.loop-filled.value c.args.packet.now c.loop-filled.place) c.next_bit-bit.ensures c.in-Got.is in
    let bit-small : c.in-Got.b ≤ 1 =
    bit_most c.loop-filled.fresh c.loop-filled.value c.args.packet.now c.loop-filled.place c.loop-filled.invariant.3 (bit-got) in
    omega (arith, bit-small)

pub overflow_sub-value : goal.overflow_sub-value
overflow_sub-value c =
    let bit-got : next_bit c.loop-filled.fresh c.loop-filled.value c.args.packet.now c.loop-filled.place ≡ got c.in-Got.b c.in-Got.first =
    read_got (next_bit c.loop-filled.fresh c.loop-filled.value c.args.packet.now c.loop-filled.place) c.next_bit-bit.ensures c.in-Got.is in
    let bit-small : c.in-Got.b ≤ 1 =
    bit_most c.loop-filled.fresh c.loop-filled.value c.args.packet.now c.loop-filled.place c.loop-filled.invariant.3 (bit-got) in
    omega (arith, bit-small)

pub loop-filled-smaller : goal.loop-filled-smaller
loop-filled-smaller c =
    let run_got : run c.args.code c.args.packet.now c.in-Got.first ≡ got c.in-Got-one.r c.in-Got-one.next =
    read_got (run c.args.code c.args.packet.now c.in-Got.first) c.read_run-one.ensures c.in-Got-one.is in
    omega (arith, run_some _ _ _ _ _ (run_got))

pub loop-filled-preserved : goal.loop-filled-preserved
loop-filled-preserved c =
    let bit-got : next_bit c.loop-filled.fresh c.loop-filled.value c.args.packet.now c.loop-filled.place ≡ got c.in-Got.b c.in-Got.first =
    read_got (next_bit c.loop-filled.fresh c.loop-filled.value c.args.packet.now c.loop-filled.place) c.next_bit-bit.ensures c.in-Got.is in
    let bit-small : c.in-Got.b ≤ 1 =
    bit_most c.loop-filled.fresh c.loop-filled.value c.args.packet.now c.loop-filled.place c.loop-filled.invariant.3 (bit-got) in
    let run_got : run c.args.code c.args.packet.now c.in-Got.first ≡ got c.in-Got-one.r c.in-Got-one.next =
    read_got (run c.args.code c.args.packet.now c.in-Got.first) c.read_run-one.ensures c.in-Got-one.is in
    let n = c.fill_bytes.auto.bytes ∙ c.loop-filled.invariant.0 in let g = goes_run c.args.code c.args.packet.now c.args.at (length c.args.out.now) c.loop-filled.out c.loop-filled.filled c.loop-filled.value c.loop-filled.fresh c.loop-filled.place c.loop-filled.invariant.4 c.loop-filled.invariant.1 c.loop-filled-test.true (bit-got) (run_got) c.if-n-filled.false in (n, sym n, omega arith, omega (arith, bit-small), rw (c.fill_bytes.ensures, c.bit_is_fresh-fresh.ensures) g)

pub returns : goal.returns
returns c = two (λ a b. record { value = a; stored = b }) (on_list _ _ (goes_done c.args.code c.args.packet.now c.args.at (length c.args.out.now) c.loop-filled.out c.loop-filled.filled c.loop-filled.value c.loop-filled.fresh c.loop-filled.place c.loop-filled.invariant.4 c.loop-filled.invariant.1 c.loop-filled-test.false c.loop-filled.invariant.2))

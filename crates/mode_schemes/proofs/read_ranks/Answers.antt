use native.Mathlib.Omega.{arith}
use mathlib.Core.Path.{◌≡◌, ◌∙◌}
use Rattle.bitstream.specs.Reading.{got, field}
use Rattle.bitstream.proofs.Fields.{read_got, read_refused, field_lt}
use Rattle.bitstream.proofs.Ends.{on_list, on_refusal}
use Rattle.mode_schemes.proofs.Facts.{ranks_done, ranks_end, ranks_on}
use Rattle.bitstream.proofs.Clauses.{two}
use Rattle.mode_schemes.proofs.read_ranks.Goals as goal

pub returns-in-Refused : goal.returns-in-Refused
returns-in-Refused c = two (λ a b. record { value = a; stored = b }) (on_refusal _ _ (c.loop-m.invariant.1 ∙ ranks_end c.args.packet.now c.loop-m.place c.loop-m.m c.loop-m.alphabet c.loop-m-test.true (read_refused (field 3 c.args.packet.now c.loop-m.place) c.read-one.ensures c.in-Refused.is)))

pub bounds-alphabet-rank : goal.bounds-alphabet-rank
bounds-alphabet-rank c =
    let rank-got : field 3 c.args.packet.now c.loop-m.place ≡ got c.in-Got.r c.in-Got.next =
    read_got (field 3 c.args.packet.now c.loop-m.place) c.read-one.ensures c.in-Got.is in
    omega (arith, field_lt 3 _ _ (rank-got))

pub loop-m-preserved : goal.loop-m-preserved
loop-m-preserved c =
    let rank-got : field 3 c.args.packet.now c.loop-m.place ≡ got c.in-Got.r c.in-Got.next =
    read_got (field 3 c.args.packet.now c.loop-m.place) c.read-one.ensures c.in-Got.is in
    (omega (arith, c.loop-m-test.true), c.loop-m.invariant.1 ∙ ranks_on c.args.packet.now c.loop-m.place c.loop-m.m c.loop-m.alphabet c.loop-m-test.true (rank-got))

pub returns : goal.returns
returns c = two (λ a b. record { value = a; stored = b }) (on_list _ _ (c.loop-m.invariant.1 ∙ ranks_done c.args.packet.now c.loop-m.place c.loop-m.m c.loop-m.alphabet c.loop-m-test.false))

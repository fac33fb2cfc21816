use native.Mathlib.Omega.{arith}
use mathlib.Core.Path.{◌≡◌, refl, ◌∙◌}
use mathlib.Core.List.{map}
use Rattle.bitstream.proofs.Ends.{on_refused, end_refused}
use Rattle.block_record.specs.Packed.{packed}
use Rattle.block_record.specs.Memory.{records_of}
use Rattle.block_qi.specs.BlockQi.{one_step, block_qi}
use Rattle.block_qi.proofs.Steps.{steps_start, steps_refused, steps_on, steps_done, on_all, records_at}
use Rattle.bitstream.proofs.Clauses.{two}
use Rattle.block_qi.proofs.read_block_qi.Goals as goal

pub loop-q-init : goal.loop-q-init
loop-q-init c = (refl, refl, omega arith, c.requires.5, steps_start c.args.qis c.args.coded.now (records_of c.args.records.now) c.args.packet.now c.args.at)

pub returns-in-Refused : goal.returns-in-Refused
returns-in-Refused c = let rs = records_of c.loop-q.records in two (λ a b. record { value = a; stored_as = b }) (on_refused (λ rs. c.read_step-done.new.records ≡ map packed rs) (block_qi c.args.qis c.args.coded.now (records_of c.args.records.now) c.args.packet.now c.args.at)
    (c.loop-q.invariant.4 ∙ steps_refused c.loop-q.q c.args.coded.now rs c.args.packet.now c.loop-q.place c.args.qis c.loop-q-test.true (end_refused (one_step c.loop-q.q c.args.coded.now rs c.args.packet.now c.loop-q.place) c.read_step-done.ensures.value c.in-Refused.is)))

pub loop-q-preserved : goal.loop-q-preserved
loop-q-preserved c = let rs = records_of c.loop-q.records in
    let u =
    records_at (one_step c.loop-q.q c.args.coded.now rs c.args.packet.now c.loop-q.place) c.read_step-done.new.records c.read_step-done.ensures.value c.read_step-done.ensures.kept_records
    c.in-At.is in (
      c.read_step-done.auto.bits ∙ c.loop-q.invariant.0,
      c.read_step-done.auto.records ∙ c.loop-q.invariant.1,
      omega (arith, c.requires.1, c.loop-q-test.true),
      u.1,
      c.loop-q.invariant.4
          ∙ steps_on c.loop-q.q c.args.coded.now rs c.args.packet.now c.loop-q.place c.args.qis
          c.loop-q-test.true u.0,
    )

pub returns : goal.returns
returns c = let rs = records_of c.loop-q.records in two (λ a b. record { value = a; stored_as = b }) (on_all _ (block_qi c.args.qis c.args.coded.now (records_of c.args.records.now) c.args.packet.now c.args.at)
    (c.loop-q.invariant.4 ∙ steps_done c.loop-q.q c.args.coded.now rs c.args.packet.now c.loop-q.place c.args.qis c.loop-q-test.false) c.loop-q.invariant.3)

-- `scoring_c::wedgepetal_settings_write` meets its contract. Assumes nothing.
use Rattle.scoring_c.proofs.Calls.{text_list, text_answer, text_pass}
use Rattle.bitstream.proofs.Clauses.{two}
use Rattle.scoring_c.proofs.wedgepetal_settings_write.Goals as goal

pub returns-then-list-ne4 : goal.returns-then-list-ne4
returns-then-list-ne4 c = two (λ a b. record { bytes_after = a; out_after = b }) (text_list c.args.version c.args.list.now c.args.bytes.now c.args.out.now c.if-list-ne4.true)

pub returns-then-bytes-ne1 : goal.returns-then-bytes-ne1
returns-then-bytes-ne1 c = two (λ a b. record { bytes_after = a; out_after = b }) (text_answer c.args.version c.args.list.now c.args.bytes.now c.args.out.now c.if-list-ne4.false c.if-bytes-ne1.true)

pub returns : goal.returns
returns c = two (λ a b. record { bytes_after = a; out_after = b }) (text_pass c.args.version c.args.list.now c.args.bytes.now c.args.out.now c.if-list-ne4.false c.if-bytes-ne1.false c.settings_of-s.result c.settings_of-s.ensures c.write.result c.write.new.out _
    c.write.ensures.value c.write.ensures.out_after c.tell.ensures)

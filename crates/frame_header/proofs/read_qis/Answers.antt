-- `frame_header::read_qis` meets its contract. Assumes nothing.
use native.Mathlib.Omega.{arith}
use mathlib.Core.Path.{◌≡◌, sym, ap, ◌∙◌}
use Rattle.bitstream.specs.Reading.{got, field}
use Rattle.bitstream.proofs.Fields.{read_got, read_refused, field_lt}
use Rattle.frame_header.specs.Answer.{as_qis}
use Rattle.frame_header.proofs.Facts.{list_end, list_got}
use Rattle.frame_header.proofs.read_qis.Goals as goal

pub overflow_cast-q : goal.overflow_cast-q
overflow_cast-q c =
    let first-got : field 6 c.args.packet.now c.args.at ≡ got c.in-Got.q c.in-Got.next =
    read_got (field 6 c.args.packet.now c.args.at) c.read-first.ensures c.in-Got.is in
    omega (arith, field_lt 6 _ _ (first-got))

pub returns-in-Refused : goal.returns-in-Refused
returns-in-Refused c = c.no_qis.ensures
    ∙ sym (ap as_qis (list_end c.args.packet.now c.args.at (read_refused (field 6 c.args.packet.now c.args.at) c.read-first.ensures c.in-Refused.is)))

pub returns-in-Got : goal.returns-in-Got
returns-in-Got c =
    let first-got : field 6 c.args.packet.now c.args.at ≡ got c.in-Got.q c.in-Got.next =
    read_got (field 6 c.args.packet.now c.args.at) c.read-first.ensures c.in-Got.is in
    c.read_more.ensures ∙ sym (ap as_qis (list_got c.args.packet.now c.args.at (first-got)))

-- `quantization::read_count` meets its contract. Assumes nothing.
use native.Mathlib.Omega.{arith}
use mathlib.Core.Path.{◌≡◌, ap, sym}
use Rattle.bitstream.specs.Reading.{got, field}
use Rattle.bitstream.specs.Answer.{as_field}
use Rattle.bitstream.proofs.Fields.{read_got, read_refused, field_lt}
use Rattle.quantization.proofs.Steps.{count_end, count_big, count_got}
use Rattle.quantization.proofs.read_count.Goals as goal

pub overflow_add-value : goal.overflow_add-value
overflow_add-value c =
    let one_got : field 9 c.args.packet.now c.args.at ≡ got c.in-Got.value c.in-Got.next =
    read_got (field 9 c.args.packet.now c.args.at) c.read-one.ensures c.in-Got.is in
    omega (arith, field_lt 9 _ _ (one_got))

pub returns-then-value-gt384 : goal.returns-then-value-gt384
returns-then-value-gt384 c =
    let one_got : field 9 c.args.packet.now c.args.at ≡ got c.in-Got.value c.in-Got.next =
    read_got (field 9 c.args.packet.now c.args.at) c.read-one.ensures c.in-Got.is in
    sym (ap as_field (count_big c.args.packet.now c.args.at (one_got) c.if-value-gt384.true))

pub returns-in-Refused : goal.returns-in-Refused
returns-in-Refused c = sym (ap as_field (count_end c.args.packet.now c.args.at (read_refused (field 9 c.args.packet.now c.args.at) c.read-one.ensures c.in-Refused.is)))

pub returns-else-value-gt384 : goal.returns-else-value-gt384
returns-else-value-gt384 c =
    let one_got : field 9 c.args.packet.now c.args.at ≡ got c.in-Got.value c.in-Got.next =
    read_got (field 9 c.args.packet.now c.args.at) c.read-one.ensures c.in-Got.is in
    sym (ap as_field (count_got c.args.packet.now c.args.at (one_got) c.if-value-gt384.false))

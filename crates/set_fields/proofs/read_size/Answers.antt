-- `set_fields::read_size` meets its contract. Assumes nothing.
use Prim.Native.Nat.{◌-◌}
use native.Mathlib.Omega.{arith}
use mathlib.Core.Path.{◌≡◌, ap, sym}
use Rattle.bitstream.specs.Reading.{got, field}
use Rattle.bitstream.specs.Answer.{as_field}
use Rattle.bitstream.proofs.Fields.{read_got, read_refused}
use Rattle.set_fields.specs.Fields.{ilog}
use Rattle.set_fields.proofs.Fields.{ilog_le, size_end, size_big, size_got}
use borrow.Author.Rules.{rules}
use Rattle.set_fields.proofs.read_size.Goals as goal

pub read-one-requires : goal.read-one-requires
read-one-requires c = (c.requires.0, omega (arith, c.ilog-width.ensures, ilog_le (62 - c.args.qi) 6 (omega arith)))

pub returns-then-qi-value-gt63 : goal.returns-then-qi-value-gt63
returns-then-qi-value-gt63 c =
    let one_got : field (ilog (62 - c.args.qi)) c.args.packet.now c.args.at ≡ got c.in-Got.value c.in-Got.next =
    let w : c.ilog-width.result ≡ ilog (62 - c.args.qi) = c.ilog-width.ensures in
    rw w at (read_got (field c.ilog-width.result c.args.packet.now c.args.at) c.read-one.ensures c.in-Got.is) in
    sym (ap as_field (size_big c.args.qi c.args.packet.now c.args.at (one_got) c.if-qi-value-gt63.true))

pub returns-in-Refused : goal.returns-in-Refused
returns-in-Refused c = let w : c.ilog-width.result ≡ ilog (62 - c.args.qi) = c.ilog-width.ensures in
    let f = read_refused (field c.ilog-width.result c.args.packet.now c.args.at) c.read-one.ensures c.in-Refused.is in
    sym (ap as_field (size_end c.args.qi c.args.packet.now c.args.at (rw w at f)))

pub returns-else-qi-value-gt63 : goal.returns-else-qi-value-gt63
returns-else-qi-value-gt63 c =
    let one_got : field (ilog (62 - c.args.qi)) c.args.packet.now c.args.at ≡ got c.in-Got.value c.in-Got.next =
    let w : c.ilog-width.result ≡ ilog (62 - c.args.qi) = c.ilog-width.ensures in
    rw w at (read_got (field c.ilog-width.result c.args.packet.now c.args.at) c.read-one.ensures c.in-Got.is) in
    sym (ap as_field (size_got c.args.qi c.args.packet.now c.args.at (one_got) c.if-qi-value-gt63.false))

-- `set_fields::read_index` meets its contract. Assumes nothing.
use Prim.Native.Nat.{◌-◌}
use native.Mathlib.Omega.{arith}
use mathlib.Core.Path.{◌≡◌, ap, sym}
use Rattle.bitstream.specs.Reading.{got, field}
use Rattle.bitstream.specs.Answer.{as_field}
use Rattle.bitstream.proofs.Fields.{read_got, read_refused}
use Rattle.set_fields.specs.Fields.{ilog}
use Rattle.set_fields.proofs.Fields.{ilog_le, index_end, index_big, index_got}
use borrow.Author.Rules.{rules}
use Rattle.set_fields.proofs.read_index.Goals as goal

pub read-one-requires : goal.read-one-requires
read-one-requires c = (c.requires.0, omega (arith, c.ilog-width.ensures, ilog_le (c.args.count - 1) 9 (omega arith)))

pub returns-then-count-value : goal.returns-then-count-value
returns-then-count-value c =
    let one_got : field (ilog (c.args.count - 1)) c.args.packet.now c.args.at ≡ got c.in-Got.value c.in-Got.next =
    let w : c.ilog-width.result ≡ ilog (c.args.count - 1) = c.ilog-width.ensures in
    rw w at (read_got (field c.ilog-width.result c.args.packet.now c.args.at) c.read-one.ensures c.in-Got.is) in
    sym (ap as_field (index_big c.args.count c.args.packet.now c.args.at (one_got) c.if-count-value.true))

pub returns-in-Refused : goal.returns-in-Refused
returns-in-Refused c = let w : c.ilog-width.result ≡ ilog (c.args.count - 1) = c.ilog-width.ensures in
    let f = read_refused (field c.ilog-width.result c.args.packet.now c.args.at) c.read-one.ensures c.in-Refused.is in
    sym (ap as_field (index_end c.args.count c.args.packet.now c.args.at (rw w at f)))

pub returns-else-count-value : goal.returns-else-count-value
returns-else-count-value c =
    let one_got : field (ilog (c.args.count - 1)) c.args.packet.now c.args.at ≡ got c.in-Got.value c.in-Got.next =
    let w : c.ilog-width.result ≡ ilog (c.args.count - 1) = c.ilog-width.ensures in
    rw w at (read_got (field c.ilog-width.result c.args.packet.now c.args.at) c.read-one.ensures c.in-Got.is) in
    sym (ap as_field (index_got c.args.count c.args.packet.now c.args.at (one_got) c.if-count-value.false))

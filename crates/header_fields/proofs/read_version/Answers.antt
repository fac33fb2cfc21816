-- `header_fields::read_version` meets its contract. Assumes nothing.
use mathlib.Core.Path.{◌≡◌, sym}
use Rattle.bitstream.specs.Reading.{got}
use Rattle.bitstream.proofs.Fields.{read_got, read_refused}
use Rattle.header_fields.specs.Tests.{exactly}
use Rattle.header_fields.specs.Frame.{version}
use Rattle.header_fields.proofs.read_version.Goals as goal

pub returns-in-Refused : goal.returns-in-Refused
unfolding version
returns-in-Refused c = sym (rw (read_refused (exactly 8 3 3 c.args.packet.now c.args.at) c.read_exactly.ensures c.in-Refused.is))

pub returns-in-Refused-read_exactly : goal.returns-in-Refused-read_exactly
unfolding version
returns-in-Refused-read_exactly c =
    let got-1 : exactly 8 3 3 c.args.packet.now c.args.at ≡ got c.in-Got.is' c.in-Got.next =
    read_got _ c.read_exactly.ensures c.in-Got.is in
    sym (rw (got-1, read_refused (exactly 8 2 3 c.args.packet.now c.in-Got.next) c.read_exactly-2.ensures c.in-Refused-read_exactly.is))

pub returns : goal.returns
unfolding version
returns c =
    let got-1 : exactly 8 3 3 c.args.packet.now c.args.at ≡ got c.in-Got.is' c.in-Got.next =
    read_got _ c.read_exactly.ensures c.in-Got.is in
    let got-2 : exactly 8 2 3 c.args.packet.now c.in-Got.next ≡ got c.in-Got-read_exactly.is' c.in-Got-read_exactly.next =
    read_got _ c.read_exactly-2.ensures c.in-Got-read_exactly.is in
    rw (got-1, got-2) c.read.ensures

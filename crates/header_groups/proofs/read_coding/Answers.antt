-- `header_groups::read_coding` meets its contract. Assumes nothing.
use mathlib.Core.Path.{◌≡◌, sym}
use Rattle.bitstream.specs.Reading.{got, field}
use Rattle.bitstream.proofs.Fields.{read_got, read_refused}
use Rattle.header_fields.specs.Tests.{format_code, exactly}
use Rattle.header_groups.specs.Groups.{coding}
use Rattle.header_groups.proofs.read_coding.Goals as goal

pub returns-in-Refused : goal.returns-in-Refused
unfolding coding
returns-in-Refused c = sym (rw (read_refused (field 24 c.args.packet.now c.args.at) c.read.ensures c.in-Refused.is))

pub returns-in-Refused-read : goal.returns-in-Refused-read
unfolding coding
returns-in-Refused-read c =
    let got-1 : field 24 c.args.packet.now c.args.at ≡ got c.in-Got.is' c.in-Got.next =
    read_got _ c.read.ensures c.in-Got.is in
    sym (rw (got-1, read_refused (field 6 c.args.packet.now c.in-Got.next) c.read-2.ensures c.in-Refused-read.is))

pub returns-in-Refused-read-2 : goal.returns-in-Refused-read-2
unfolding coding
returns-in-Refused-read-2 c =
    let got-1 : field 24 c.args.packet.now c.args.at ≡ got c.in-Got.is' c.in-Got.next =
    read_got _ c.read.ensures c.in-Got.is in
    let got-2 : field 6 c.args.packet.now c.in-Got.next ≡ got c.in-Got-read.is' c.in-Got-read.next =
    read_got _ c.read-2.ensures c.in-Got-read.is in
    sym (rw (got-1, got-2, read_refused (field 5 c.args.packet.now c.in-Got-read.next) c.read-3.ensures c.in-Refused-read-2.is))

pub returns-in-Refused-read_format_code : goal.returns-in-Refused-read_format_code
unfolding coding
returns-in-Refused-read_format_code c =
    let got-1 : field 24 c.args.packet.now c.args.at ≡ got c.in-Got.is' c.in-Got.next =
    read_got _ c.read.ensures c.in-Got.is in
    let got-2 : field 6 c.args.packet.now c.in-Got.next ≡ got c.in-Got-read.is' c.in-Got-read.next =
    read_got _ c.read-2.ensures c.in-Got-read.is in
    let got-3 : field 5 c.args.packet.now c.in-Got-read.next ≡ got c.in-Got-read-2.is' c.in-Got-read-2.next =
    read_got _ c.read-3.ensures c.in-Got-read-2.is in
    sym (rw (got-1, got-2, got-3, read_refused (format_code 2 c.args.packet.now c.in-Got-read-2.next) c.read_format_code.ensures c.in-Refused-read_format_code.is))

pub returns-in-Refused-read_exactly : goal.returns-in-Refused-read_exactly
unfolding coding
returns-in-Refused-read_exactly c =
    let got-1 : field 24 c.args.packet.now c.args.at ≡ got c.in-Got.is' c.in-Got.next =
    read_got _ c.read.ensures c.in-Got.is in
    let got-2 : field 6 c.args.packet.now c.in-Got.next ≡ got c.in-Got-read.is' c.in-Got-read.next =
    read_got _ c.read-2.ensures c.in-Got-read.is in
    let got-3 : field 5 c.args.packet.now c.in-Got-read.next ≡ got c.in-Got-read-2.is' c.in-Got-read-2.next =
    read_got _ c.read-3.ensures c.in-Got-read-2.is in
    let got-4 : format_code 2 c.args.packet.now c.in-Got-read-2.next ≡ got c.in-Got-read_format_code.is' c.in-Got-read_format_code.next =
    read_got _ c.read_format_code.ensures c.in-Got-read_format_code.is in
    sym (rw (got-1, got-2, got-3, got-4, read_refused (exactly 3 0 6 c.args.packet.now c.in-Got-read_format_code.next) c.read_exactly.ensures c.in-Refused-read_exactly.is))

pub returns : goal.returns
unfolding coding
returns c =
    let got-1 : field 24 c.args.packet.now c.args.at ≡ got c.in-Got.is' c.in-Got.next =
    read_got _ c.read.ensures c.in-Got.is in
    let got-2 : field 6 c.args.packet.now c.in-Got.next ≡ got c.in-Got-read.is' c.in-Got-read.next =
    read_got _ c.read-2.ensures c.in-Got-read.is in
    let got-3 : field 5 c.args.packet.now c.in-Got-read.next ≡ got c.in-Got-read-2.is' c.in-Got-read-2.next =
    read_got _ c.read-3.ensures c.in-Got-read-2.is in
    let got-4 : format_code 2 c.args.packet.now c.in-Got-read-2.next ≡ got c.in-Got-read_format_code.is' c.in-Got-read_format_code.next =
    read_got _ c.read_format_code.ensures c.in-Got-read_format_code.is in
    let got-5 : exactly 3 0 6 c.args.packet.now c.in-Got-read_format_code.next ≡ got c.in-Got-read_exactly.is' c.in-Got-read_exactly.next =
    read_got _ c.read_exactly.ensures c.in-Got-read_exactly.is in
    sym (rw (got-1, got-2, got-3, got-4, got-5))

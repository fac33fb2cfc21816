-- `header_groups::read_rates` meets its contract. Assumes nothing.
use mathlib.Core.Path.{◌≡◌, sym}
use Rattle.bitstream.specs.Reading.{got, field}
use Rattle.bitstream.proofs.Fields.{read_got, read_refused}
use Rattle.header_fields.specs.Tests.{positive}
use Rattle.header_groups.specs.Groups.{rates}
use Rattle.header_groups.proofs.read_rates.Goals as goal

pub returns-in-Refused : goal.returns-in-Refused
unfolding rates
returns-in-Refused c = sym (rw (read_refused (positive 32 c.args.packet.now c.args.at) c.read_positive.ensures c.in-Refused.is))

pub returns-in-Refused-read_positive : goal.returns-in-Refused-read_positive
unfolding rates
returns-in-Refused-read_positive c =
    let got-1 : positive 32 c.args.packet.now c.args.at ≡ got c.in-Got.is' c.in-Got.next =
    read_got _ c.read_positive.ensures c.in-Got.is in
    sym (rw (got-1, read_refused (positive 32 c.args.packet.now c.in-Got.next) c.read_positive-2.ensures c.in-Refused-read_positive.is))

pub returns-in-Refused-read : goal.returns-in-Refused-read
unfolding rates
returns-in-Refused-read c =
    let got-1 : positive 32 c.args.packet.now c.args.at ≡ got c.in-Got.is' c.in-Got.next =
    read_got _ c.read_positive.ensures c.in-Got.is in
    let got-2 : positive 32 c.args.packet.now c.in-Got.next ≡ got c.in-Got-read_positive.is' c.in-Got-read_positive.next =
    read_got _ c.read_positive-2.ensures c.in-Got-read_positive.is in
    sym (rw (got-1, got-2, read_refused (field 24 c.args.packet.now c.in-Got-read_positive.next) c.read.ensures c.in-Refused-read.is))

pub returns-in-Refused-read-2 : goal.returns-in-Refused-read-2
unfolding rates
returns-in-Refused-read-2 c =
    let got-1 : positive 32 c.args.packet.now c.args.at ≡ got c.in-Got.is' c.in-Got.next =
    read_got _ c.read_positive.ensures c.in-Got.is in
    let got-2 : positive 32 c.args.packet.now c.in-Got.next ≡ got c.in-Got-read_positive.is' c.in-Got-read_positive.next =
    read_got _ c.read_positive-2.ensures c.in-Got-read_positive.is in
    let got-3 : field 24 c.args.packet.now c.in-Got-read_positive.next ≡ got c.in-Got-read.is' c.in-Got-read.next =
    read_got _ c.read.ensures c.in-Got-read.is in
    sym (rw (got-1, got-2, got-3, read_refused (field 24 c.args.packet.now c.in-Got-read.next) c.read-2.ensures c.in-Refused-read-2.is))

pub returns-in-Refused-read-3 : goal.returns-in-Refused-read-3
unfolding rates
returns-in-Refused-read-3 c =
    let got-1 : positive 32 c.args.packet.now c.args.at ≡ got c.in-Got.is' c.in-Got.next =
    read_got _ c.read_positive.ensures c.in-Got.is in
    let got-2 : positive 32 c.args.packet.now c.in-Got.next ≡ got c.in-Got-read_positive.is' c.in-Got-read_positive.next =
    read_got _ c.read_positive-2.ensures c.in-Got-read_positive.is in
    let got-3 : field 24 c.args.packet.now c.in-Got-read_positive.next ≡ got c.in-Got-read.is' c.in-Got-read.next =
    read_got _ c.read.ensures c.in-Got-read.is in
    let got-4 : field 24 c.args.packet.now c.in-Got-read.next ≡ got c.in-Got-read-2.is' c.in-Got-read-2.next =
    read_got _ c.read-2.ensures c.in-Got-read-2.is in
    sym (rw (got-1, got-2, got-3, got-4, read_refused (field 8 c.args.packet.now c.in-Got-read-2.next) c.read-3.ensures c.in-Refused-read-3.is))

pub returns : goal.returns
unfolding rates
returns c =
    let got-1 : positive 32 c.args.packet.now c.args.at ≡ got c.in-Got.is' c.in-Got.next =
    read_got _ c.read_positive.ensures c.in-Got.is in
    let got-2 : positive 32 c.args.packet.now c.in-Got.next ≡ got c.in-Got-read_positive.is' c.in-Got-read_positive.next =
    read_got _ c.read_positive-2.ensures c.in-Got-read_positive.is in
    let got-3 : field 24 c.args.packet.now c.in-Got-read_positive.next ≡ got c.in-Got-read.is' c.in-Got-read.next =
    read_got _ c.read.ensures c.in-Got-read.is in
    let got-4 : field 24 c.args.packet.now c.in-Got-read.next ≡ got c.in-Got-read-2.is' c.in-Got-read-2.next =
    read_got _ c.read-2.ensures c.in-Got-read-2.is in
    let got-5 : field 8 c.args.packet.now c.in-Got-read-2.next ≡ got c.in-Got-read-3.is' c.in-Got-read-3.next =
    read_got _ c.read-3.ensures c.in-Got-read-3.is in
    sym (rw (got-1, got-2, got-3, got-4, got-5))

-- `headers::read_session` meets its contract. Assumes nothing.
use mathlib.Core.Path.{◌≡◌, sym}
use Rattle.bitstream.specs.Reading.{got}
use Rattle.bitstream.proofs.Fields.{read_got, read_refused}
use Rattle.header_groups.specs.Judgement.{common_header}
use Rattle.header_groups.specs.Groups.{rates, coding}
use Rattle.headers.specs.Identification.{identification}
use Rattle.header_fields.specs.Frame.{version, frame_size}
use Rattle.headers.proofs.Groups.{frame_size_is, frame_size_refused, rates_is, rates_refused, coding_is, coding_refused}
use Rattle.bitstream.proofs.Ends.{end_refused, end_at}
use Rattle.headers.proofs.read_session.Goals as goal

pub returns-in-Refused : goal.returns-in-Refused
unfolding identification
returns-in-Refused c = sym (rw (end_refused (common_header 0x80 c.args.packet.now (0)) c.read_common_header.ensures c.in-Refused.is))

pub returns-in-Refused-read_version : goal.returns-in-Refused-read_version
unfolding identification
returns-in-Refused-read_version c =
    let at_1 : common_header 0x80 c.args.packet.now (0) ≡ got tt c.in-At.next =
    (end_at _ c.read_common_header.ensures c.in-At.is).1 in
    sym (rw (at_1, read_refused (version c.args.packet.now c.in-At.next) c.read_version.ensures c.in-Refused-read_version.is))

pub returns-in-Refused-read_frame_size : goal.returns-in-Refused-read_frame_size
unfolding identification
returns-in-Refused-read_frame_size c =
    let at_1 : common_header 0x80 c.args.packet.now (0) ≡ got tt c.in-At.next =
    (end_at _ c.read_common_header.ensures c.in-At.is).1 in
    let at-2 : version c.args.packet.now c.in-At.next ≡ got c.in-Got.is' c.in-Got.next =
    read_got _ c.read_version.ensures c.in-Got.is in
    sym (rw (at_1, at-2, frame_size_refused (frame_size c.args.packet.now c.in-Got.next) c.read_frame_size.ensures c.in-Refused-read_frame_size.is))

pub returns-in-Refused-read_rates : goal.returns-in-Refused-read_rates
unfolding identification
returns-in-Refused-read_rates c =
    let at_1 : common_header 0x80 c.args.packet.now (0) ≡ got tt c.in-At.next =
    (end_at _ c.read_common_header.ensures c.in-At.is).1 in
    let at-2 : version c.args.packet.now c.in-At.next ≡ got c.in-Got.is' c.in-Got.next =
    read_got _ c.read_version.ensures c.in-Got.is in
    let at-3 : frame_size c.args.packet.now c.in-Got.next ≡ got c.in-Is.f c.in-Is.rates_at =
    frame_size_is _ c.read_frame_size.ensures c.in-Is.is in
    sym (rw (at_1, at-2, at-3, rates_refused (rates c.args.packet.now c.in-Is.rates_at) c.read_rates.ensures c.in-Refused-read_rates.is))

pub returns-in-Refused-read_coding : goal.returns-in-Refused-read_coding
unfolding identification
returns-in-Refused-read_coding c =
    let at_1 : common_header 0x80 c.args.packet.now (0) ≡ got tt c.in-At.next =
    (end_at _ c.read_common_header.ensures c.in-At.is).1 in
    let at-2 : version c.args.packet.now c.in-At.next ≡ got c.in-Got.is' c.in-Got.next =
    read_got _ c.read_version.ensures c.in-Got.is in
    let at-3 : frame_size c.args.packet.now c.in-Got.next ≡ got c.in-Is.f c.in-Is.rates_at =
    frame_size_is _ c.read_frame_size.ensures c.in-Is.is in
    let at-4 : rates c.args.packet.now c.in-Is.rates_at ≡ got c.in-Is-read_rates.r c.in-Is-read_rates.coding_at =
    rates_is _ c.read_rates.ensures c.in-Is-read_rates.is in
    sym (rw (at_1, at-2, at-3, at-4, coding_refused (coding c.args.packet.now c.in-Is-read_rates.coding_at) c.read_coding.ensures c.in-Refused-read_coding.is))

pub returns-in-Is-read_coding : goal.returns-in-Is-read_coding
unfolding identification
returns-in-Is-read_coding c =
    let at_1 : common_header 0x80 c.args.packet.now (0) ≡ got tt c.in-At.next =
    (end_at _ c.read_common_header.ensures c.in-At.is).1 in
    let at-2 : version c.args.packet.now c.in-At.next ≡ got c.in-Got.is' c.in-Got.next =
    read_got _ c.read_version.ensures c.in-Got.is in
    let at-3 : frame_size c.args.packet.now c.in-Got.next ≡ got c.in-Is.f c.in-Is.rates_at =
    frame_size_is _ c.read_frame_size.ensures c.in-Is.is in
    let at-4 : rates c.args.packet.now c.in-Is.rates_at ≡ got c.in-Is-read_rates.r c.in-Is-read_rates.coding_at =
    rates_is _ c.read_rates.ensures c.in-Is-read_rates.is in
    let at_5 : coding c.args.packet.now c.in-Is-read_rates.coding_at ≡ got c.in-Is-read_coding.c c.in-Is-read_coding.field-1 =
    coding_is _ c.read_coding.ensures c.in-Is-read_coding.is in
    sym (rw (at_1, at-2, at-3, at-4, at_5))

-- `frame_header::read_header` meets its contract. Assumes nothing.
use Prim.Native.Nat.{ℕ}
use mathlib.Core.Path.{◌≡◌, sym, ap, ◌∙◌}
use mathlib.Core.List.{List}
use lib.ListN.{length}
use Rattle.bitstream.specs.Reading.{got}
use Rattle.bitstream.proofs.Fields.{read_got, read_refused}
use Rattle.frame_type.specs.Judged.{frame_type, reserved}
use Rattle.frame_header.specs.Header.{qi_list, frame_header}
use Rattle.frame_header.specs.Answer.{three, as_read}
use Rattle.frame_header.proofs.Facts.{qis_refused, qis_got, header_type, header_qis, header_reserved, header_got, header_answer}
use Rattle.frame_header.proofs.read_header.Goals as goal

pub returns-in-Refused : goal.returns-in-Refused
returns-in-Refused c = c.no_header.ensures
    ∙ sym (ap as_read (header_type c.args.references c.args.packet.now 0 (read_refused (frame_type c.args.references c.args.packet.now 0) c.read_type-first.ensures c.in-Refused.is)))

pub returns-in-Refused-done : goal.returns-in-Refused-done
returns-in-Refused-done c =
    let type_got : frame_type c.args.references c.args.packet.now 0 ≡ got c.in-Got.t c.in-Got.next =
    read_got (frame_type c.args.references c.args.packet.now 0) c.read_type-first.ensures c.in-Got.is in
    c.no_header-in-Refused-done.ensures
    ∙ sym (ap as_read (header_qis c.args.references c.args.packet.now 0 (type_got) (qis_refused (qi_list c.args.packet.now c.in-Got.next) c.read_qis-list.ensures c.in-Refused-done.is)))

pub returns-in-Refused-last : goal.returns-in-Refused-last
returns-in-Refused-last c =
    let type_got : frame_type c.args.references c.args.packet.now 0 ≡ got c.in-Got.t c.in-Got.next =
    read_got (frame_type c.args.references c.args.packet.now 0) c.read_type-first.ensures c.in-Got.is in
    let list_got : (qis : List ℕ) × (qi_list c.args.packet.now c.in-Got.next ≡ got qis c.in-At.place) × (c.read_qis-list.result.qis ≡ three qis) × (c.read_qis-list.result.count ≡ length qis) =
    qis_got (qi_list c.args.packet.now c.in-Got.next)
    c.read_qis-list.ensures c.in-At.is in
    let l = list_got in
    c.no_header-in-Refused-last.ensures
    ∙ sym (ap as_read (header_reserved c.args.references c.args.packet.now 0 (type_got) l.1 (read_refused (reserved c.in-Got.t c.args.packet.now c.in-At.place) c.read_reserved-last.ensures c.in-Refused-last.is)))

pub returns-in-Got-last : goal.returns-in-Got-last
returns-in-Got-last c =
    let type_got : frame_type c.args.references c.args.packet.now 0 ≡ got c.in-Got.t c.in-Got.next =
    read_got (frame_type c.args.references c.args.packet.now 0) c.read_type-first.ensures c.in-Got.is in
    let list_got : (qis : List ℕ) × (qi_list c.args.packet.now c.in-Got.next ≡ got qis c.in-At.place) × (c.read_qis-list.result.qis ≡ three qis) × (c.read_qis-list.result.count ≡ length qis) =
    qis_got (qi_list c.args.packet.now c.in-Got.next)
    c.read_qis-list.ensures c.in-At.is in
    let l = list_got in
    header_answer (frame_header c.args.references c.args.packet.now 0)
    (header_got c.args.references c.args.packet.now 0 (type_got) l.1 (read_got (reserved c.in-Got.t c.args.packet.now c.in-At.place) c.read_reserved-last.ensures c.in-Got-last.is))
    c.kind_of-kind.ensures l.2 l.3

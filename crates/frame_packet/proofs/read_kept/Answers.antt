-- `frame_packet::read_kept` meets its contract. After a refusal all slices are cleared; else what was read stays, with the zeros behind it. Assumes nothing.
use mathlib.Core.Path.{◌≡◌, sym, ap, ◌∙◌}
use lib.IntN.{pos}
use mathlib.Core.Bool.{Bool}
use lib.ListN.{length}
use Rattle.bitstream.specs.Reading.{got, refused, choose}
use Rattle.frame_header.specs.Header.{FrameHeader, frame_header}
use Rattle.frame_header.specs.Answer as header
use Rattle.tokens.specs.Answer.{trees_of}
use Rattle.packet_opening.proofs.Ways.{is_header_law, is_repeat, is_refused}
use Rattle.packet_body.specs.Frame.{Body, body, repeat_frame, frame_packet}
use Rattle.work_memory.specs.Memory.{work}
use Rattle.packet_body.specs.Work.{LeftBy, as_read}
use Rattle.frame_packet.specs.Work.{as_frame}
use Rattle.packet_body.proofs.Steps.{Sized, sized}
use Rattle.work_memory.proofs.Clearing.{clear_whole, cleared_to}
use Rattle.frame_packet.proofs.Whole.{header_refused, header_got, body_refused, body_got, packet_header, packet_body, packet_got, on_empty, on_no_frame, on_frame}
use Rattle.bitstream.proofs.Clauses.{two}
use Rattle.frame_packet.proofs.read_kept.Goals as goal

pub returns-in-Repeat : goal.returns-in-Repeat
returns-in-Repeat c = let e = is_repeat (length c.args.packet.now) c.args.references (sym c.open_packet-opening.ensures ∙ c.in-Repeat.is) in two (λ a b. record { value = a; active_after = b }) (on_empty c.args.format c.args.w c.args.h (trees_of c.args.nodes.now) c.args.references c.args.packet.now e.0 _ _ (c.repeat.ensures ∙ ap (λ (b : Bool). as_frame (choose b (got (repeat_frame c.args.format c.args.w c.args.h) 0) (refused 9 0))) (sym e.1)) c.requires.4)

pub returns-in-NoReferences : goal.returns-in-NoReferences
returns-in-NoReferences c = let e = is_refused (length c.args.packet.now) c.args.references (sym c.open_packet-opening.ensures ∙ c.in-NoReferences.is) in two (λ a b. record { value = a; active_after = b }) (on_empty c.args.format c.args.w c.args.h (trees_of c.args.nodes.now) c.args.references c.args.packet.now e.0 _ _ (c.refusal.ensures ∙ ap (λ (b : Bool). as_frame (choose b (got (repeat_frame c.args.format c.args.w c.args.h) 0) (refused 9 0))) (sym e.1)) c.requires.4)

pub returns-in-Refused : goal.returns-in-Refused
returns-in-Refused c = two (λ a b. record { value = a; active_after = b }) (on_no_frame c.args.format c.args.w c.args.h _ _ (frame_packet c.args.format c.args.w c.args.h (trees_of c.args.nodes.now) c.args.references c.args.packet.now)
    (packet_header c.args.format c.args.w c.args.h (trees_of c.args.nodes.now) c.args.references c.args.packet.now (is_header_law (length c.args.packet.now) c.args.references (sym c.open_packet-opening.ensures ∙ c.in-Header.is)) (header_refused (frame_header c.args.references c.args.packet.now 0) c.read_header-head.ensures c.in-Refused.is)) c.refusal-in-Refused.ensures c.requires.4)

pub returns-in-Refused-read : goal.returns-in-Refused-read
returns-in-Refused-read c =
    let head : (h : FrameHeader) × (frame_header c.args.references c.args.packet.now 0 ≡ got h c.in-At.at) × (c.read_header-head.result.header ≡ header.as_header h) =
    header_got (frame_header c.args.references c.args.packet.now 0) c.read_header-head.ensures c.in-At.is in
    let long : Sized c.args.format c.args.w c.args.h (work c.args.records.now c.args.coded.now c.args.coefs.now c.args.lasts.now c.args.flags.now c.args.bits.now c.args.supers.now c.args.modes.now c.args.active.now) =
    sized c.args.format c.args.w c.args.h _ c.requires.4 in
    let l = long in
    let u = head in
    let e0 = cleared_to 0 c.clear_read.ensures.0 (c.read_body-read.auto.records ∙ l.records) in
    let e1 = cleared_to 0 c.clear_read.ensures.1 (c.read_body-read.auto.coded ∙ l.coded) in
    let e2 = cleared_to (pos 0) c.clear_read.ensures.2 (c.read_body-read.auto.coefs ∙ l.coefs) in
    let e3 = cleared_to 0 c.clear_read.ensures.3 (c.read_body-read.auto.lasts ∙ l.lasts) in
    let e4 = cleared_to 0 c.clear_scratch.ensures.0 (c.read_body-read.auto.flags ∙ l.flags) in
    let e5 = cleared_to 0 c.clear_scratch.ensures.1 (c.read_body-read.auto.bits ∙ l.bits) in
    let e6 = cleared_to 0 c.clear_scratch.ensures.2 (c.read_body-read.auto.supers ∙ l.supers) in
    let e7 = cleared_to 0 (clear_whole 0 c.read_body-read.new.modes _ c.clear_bytes.ensures) (c.read_body-read.auto.modes ∙ l.modes) in
    let e8 = cleared_to 0 c.clear_scratch.ensures.3 (c.read_body-read.auto.active ∙ l.active) in two (λ a b. record { value = a; active_after = b }) (on_no_frame c.args.format c.args.w c.args.h _ _ (frame_packet c.args.format c.args.w c.args.h (trees_of c.args.nodes.now) c.args.references c.args.packet.now)
    (packet_body c.args.format c.args.w c.args.h (trees_of c.args.nodes.now) c.args.references c.args.packet.now (is_header_law (length c.args.packet.now) c.args.references (sym c.open_packet-opening.ensures ∙ c.in-Header.is)) c.read_header-head.result.header u.0 _ u.1 u.2 (body_refused (body c.args.format c.args.w c.args.h (trees_of c.args.nodes.now) c.read_header-head.result.header.kind c.read_header-head.result.header.count c.args.packet.now c.in-At.at) c.read_body-read.ensures.value c.in-Refused-read.is)) c.refusal-in-Refused-read.ensures
    (λ i. work (e0 i) (e1 i) (e2 i) (e3 i) (e4 i) (e5 i) (e6 i) (e7 i) (e8 i)))

pub returns-in-Whole : goal.returns-in-Whole
returns-in-Whole c =
    let head : (h : FrameHeader) × (frame_header c.args.references c.args.packet.now 0 ≡ got h c.in-At.at) × (c.read_header-head.result.header ≡ header.as_header h) =
    header_got (frame_header c.args.references c.args.packet.now 0) c.read_header-head.ensures c.in-At.is in
    let long : Sized c.args.format c.args.w c.args.h (work c.args.records.now c.args.coded.now c.args.coefs.now c.args.lasts.now c.args.flags.now c.args.bits.now c.args.supers.now c.args.modes.now c.args.active.now) =
    sized c.args.format c.args.w c.args.h _ c.requires.4 in
    let whole : (b : Body)
    × (body c.args.format c.args.w c.args.h (trees_of c.args.nodes.now) c.read_header-head.result.header.kind c.read_header-head.result.header.count c.args.packet.now c.in-At.at ≡ got b c.in-Whole.field-2) × (c.in-Whole.count ≡ length b.coded)
    × LeftBy c.args.format c.args.w c.args.h b (work c.read_body-read.new.records c.read_body-read.new.coded c.read_body-read.new.coefs c.read_body-read.new.lasts c.read_body-read.new.flags c.read_body-read.new.bits c.read_body-read.new.supers c.read_body-read.new.modes c.read_body-read.new.active) =
    body_got c.args.format c.args.w c.args.h (work c.read_body-read.new.records c.read_body-read.new.coded c.read_body-read.new.coefs c.read_body-read.new.lasts c.read_body-read.new.flags c.read_body-read.new.bits c.read_body-read.new.supers c.read_body-read.new.modes c.read_body-read.new.active) (body c.args.format c.args.w c.args.h (trees_of c.args.nodes.now) c.read_header-head.result.header.kind c.read_header-head.result.header.count c.args.packet.now c.in-At.at)
    c.read_body-read.ensures.value c.read_body-read.ensures.left c.in-Whole.is in
    let l = long in
    let u = head in
    let v = whole in
    let y = sym c.in-Whole.is ∙ c.read_body-read.ensures.value ∙ ap as_read v.1 in
    let e4 = cleared_to 0 c.clear_scratch-in-Whole.ensures.0 (c.read_body-read.auto.flags ∙ l.flags) in
    let e5 = cleared_to 0 c.clear_scratch-in-Whole.ensures.1 (c.read_body-read.auto.bits ∙ l.bits) in
    let e6 = cleared_to 0 c.clear_scratch-in-Whole.ensures.2 (c.read_body-read.auto.supers ∙ l.supers) in
    let e8 = cleared_to 0 c.clear_scratch-in-Whole.ensures.3 (c.read_body-read.auto.active ∙ l.active) in two (λ a b. record { value = a; active_after = b }) (on_frame c.args.format c.args.w c.args.h _ _ (frame_packet c.args.format c.args.w c.args.h (trees_of c.args.nodes.now) c.args.references c.args.packet.now)
    (packet_got c.args.format c.args.w c.args.h (trees_of c.args.nodes.now) c.args.references c.args.packet.now (is_header_law (length c.args.packet.now) c.args.references (sym c.open_packet-opening.ensures ∙ c.in-Header.is)) c.read_header-head.result.header u.0 _ u.1 u.2 v.1) (λ i. record { read = y i; header = u.2 i })
    (λ i. work (v.3.records i) (v.3.coded i) (v.3.coefs i) (v.3.lasts i) (e4 i) (e5 i) (e6 i) (v.3.modes i) (e8 i)))

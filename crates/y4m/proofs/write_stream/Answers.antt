-- `y4m::write_stream` meets its contract. Assumes nothing.
use native.Mathlib.Omega.{arith}
use mathlib.Core.Path.{refl}
use Rattle.output.proofs.Splices.{written_nothing}
use Rattle.y4m.proofs.Fitting.{bytes_some}
use Rattle.y4m.proofs.HeaderLaws.{line_room, line_taken}
use Rattle.y4m.specs.Stream.{stream_text, count_of}
use Rattle.y4m.proofs.Calls.{header_short_of, frames_short_of, room_for, stream_done}
use Rattle.bitstream.proofs.Clauses.{two}
use Rattle.y4m.proofs.write_stream.Goals as goal

pub nonzero_div-count : goal.nonzero_div-count
nonzero_div-count c = omega (arith, (bytes_some c.args.n c.requires.0).0, c.requires.1)

pub returns-then-out-head : goal.returns-then-out-head
returns-then-out-head c = two (λ a b. record { value = a; out_after = b }) (written_nothing (stream_text c.args.n c.args.frames.now (count_of c.args.n c.args.frames.now)) c.args.out.now (header_short_of c.args.n c.args.frames.now c.args.out.now c.args.size c.put_header-head.result c.requires.1 c.put_header-head.ensures.value c.if-out-head.true))

pub overflow_add-size : goal.overflow_add-size
overflow_add-size c = record { fits = omega (arith, (bytes_some c.args.n c.requires.0).1, c.requires.1) }

pub returns-then-out-head-2 : goal.returns-then-out-head-2
returns-then-out-head-2 c = two (λ a b. record { value = a; out_after = b }) (written_nothing (stream_text c.args.n c.args.frames.now (count_of c.args.n c.args.frames.now)) c.args.out.now (frames_short_of c.args.n c.args.frames.now c.args.out.now c.args.size c.put_header-head.result c.requires.1 c.put_header-head.ensures.value c.if-out-head.false c.if-out-head-2.true))

pub slice_bounds-line-end : goal.slice_bounds-line-end
slice_bounds-line-end c = (line_room c.args.n c.args.frames.now c.put_header-head.new.out c.put_header-head.result c.put_header-head.ensures.value _ c.put_header-head.ensures.out_after refl).0

pub slice_bounds-put-end : goal.slice_bounds-put-end
slice_bounds-put-end c = (line_room c.args.n c.args.frames.now c.put_header-head.new.out c.put_header-head.result c.put_header-head.ensures.value _ c.put_header-head.ensures.out_after refl).1

pub returns : goal.returns
returns c = let q = room_for c.args.n c.args.frames.now c.args.out.now c.args.size c.put_header-head.result c.requires.1 c.put_header-head.ensures.value c.if-out-head.false c.if-out-head-2.false in
    let e = line_taken c.args.n c.args.frames.now c.put_header-head.new.out c.put_header-head.result c.put_header-head.ensures.value _ c.put_header-head.ensures.out_after in two (λ a b. record { value = a; out_after = b }) (stream_done c.args.n c.args.frames.now c.args.out.now c.args.size c.put_header-head.result c.requires.1 c.put_header-head.ensures.value _ _ _ _ _ q.0 e c.put-begin.ensures.value c.put-begin.ensures.out_after c.put_frames-end.ensures.value c.put_frames-end.ensures.out_after)

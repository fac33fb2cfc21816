-- `y4m::look` meets its contract. Assumes nothing.
use native.Mathlib.Omega.{arith}
use mathlib.Core.Path.{sym, ◌∙◌}
use Rattle.y4m.proofs.Looks.{begins, no_header, some_header, frames_there, left_over, not_marked, stream_found}
use Rattle.y4m.proofs.look.Goals as goal

pub returns-then-begin-eq0 : goal.returns-then-begin-eq0
returns-then-begin-eq0 c = no_header c.args.n c.args.stream.now _ c.header_end-begin.ensures c.if-begin-eq0.true

pub frame_bytes-size-requires : goal.frame_bytes-size-requires
frame_bytes-size-requires c = let h = some_header c.args.n c.args.stream.now _ c.header_end-begin.ensures c.if-begin-eq0.false in (begins c.args.n c.args.stream.now h.0).fits

pub overflow_sub-rest : goal.overflow_sub-rest
overflow_sub-rest c = let h = some_header c.args.n c.args.stream.now _ c.header_end-begin.ensures c.if-begin-eq0.false in omega (arith, (begins c.args.n c.args.stream.now h.0).long)

pub returns-then-rest-size-ne0 : goal.returns-then-rest-size-ne0
returns-then-rest-size-ne0 c = let h = some_header c.args.n c.args.stream.now _ c.header_end-begin.ensures c.if-begin-eq0.false in left_over c.args.n c.args.stream.now h.0 c.header_end-begin.result c.frame_bytes-size.result h.1 c.frame_bytes-size.ensures.0 c.if-rest-size-ne0.true

pub all_marked-requires : goal.all_marked-requires
all_marked-requires c = let h = some_header c.args.n c.args.stream.now _ c.header_end-begin.ensures c.if-begin-eq0.false in frames_there c.args.n c.args.stream.now h.0 c.header_end-begin.result c.frame_bytes-size.result h.1 c.frame_bytes-size.ensures.0

pub returns-then-not-all_marked : goal.returns-then-not-all_marked
returns-then-not-all_marked c = let h = some_header c.args.n c.args.stream.now _ c.header_end-begin.ensures c.if-begin-eq0.false in not_marked c.args.n c.args.stream.now h.0 c.header_end-begin.result c.frame_bytes-size.result h.1 c.frame_bytes-size.ensures.0 c.if-rest-size-ne0.false (sym c.all_marked.ensures ∙ c.if-not-all_marked.true)

pub returns : goal.returns
returns c = let h = some_header c.args.n c.args.stream.now _ c.header_end-begin.ensures c.if-begin-eq0.false in stream_found c.args.n c.args.stream.now h.0 c.header_end-begin.result c.frame_bytes-size.result h.1 c.frame_bytes-size.ensures.0 c.if-rest-size-ne0.false (sym c.all_marked.ensures ∙ c.if-not-all_marked.false)

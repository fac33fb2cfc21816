-- `packet_opening::open_packet` meets its contract. Assumes nothing.
use mathlib.Core.Path.{sym}
use Rattle.packet_opening.specs.Opening.{opening_of}
use Rattle.packet_opening.proofs.Ways.{with_header}
use Rattle.packet_opening.proofs.open_packet.Goals as goal

pub returns-then-references : goal.returns-then-references
unfolding opening_of
returns-then-references c = sym (rw (c.if-length-eq0.true, c.if-references.true))

pub returns-then-length-eq0 : goal.returns-then-length-eq0
unfolding opening_of
returns-then-length-eq0 c = sym (rw (c.if-length-eq0.true, c.if-references.false))

pub returns : goal.returns
returns c = with_header c.args.length c.args.references c.if-length-eq0.false

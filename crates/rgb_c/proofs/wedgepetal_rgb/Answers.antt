-- `rgb_c::wedgepetal_rgb` meets its contract. Assumes nothing.
use mathlib.Core.Path.{sym, ap, ◌∙◌}
use lib.ListN.{length}
use Rattle.session_list.proofs.Lists.{lengths, made, unmade}
use Rattle.rgb_c.specs.Face.{written_returned}
use Rattle.rgb_c.proofs.Left.{left_made, left_unmade}
use Rattle.rgb_c.proofs.wedgepetal_rgb.Goals as goal

pub session_of-requires : goal.session_of-requires
session_of-requires c = (lengths 1 c.args.session.now (length c.args.written.now) (sym c.lists_refusal-k.ensures ∙ c.if-k-eq0.true)).0

pub return_written-requires : goal.return_written-requires
return_written-requires c = (lengths 1 c.args.session.now (length c.args.written.now) (sym c.lists_refusal-k.ensures ∙ c.if-k-eq0.true)).1

pub returns-then-k-eq0 : goal.returns-then-k-eq0
returns-then-k-eq0 c = record { written_after = made 1 c.args.session.now c.args.written.now c.lists_refusal-k.ensures _ c.if-k-eq0.true c.session_of.ensures (c.return_written.ensures ∙ ap (written_returned c.args.written.now) c.convert.ensures.value); out_after = left_made c.args.session.now c.args.planes.now c.args.out.now (length c.args.written.now) c.lists_refusal-k.ensures c.if-k-eq0.true c.session_of.ensures c.convert.ensures.out_after }

pub returns : goal.returns
returns c = record { written_after = unmade 1 c.args.session.now c.args.written.now c.lists_refusal-k.ensures _ c.if-k-eq0.false; out_after = left_unmade c.args.session.now c.args.planes.now c.args.out.now (length c.args.written.now) c.lists_refusal-k.ensures c.if-k-eq0.false }

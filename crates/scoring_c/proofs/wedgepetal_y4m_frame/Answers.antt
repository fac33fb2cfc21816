-- `scoring_c::wedgepetal_y4m_frame` meets its contract. Assumes nothing.
use mathlib.Core.Path.{sym, ◌∙◌}
use lib.ListN.{length}
use Rattle.y4m.specs.Stream.{frame_for}
use Rattle.session_list.proofs.Lists.{lengths}
use Rattle.scoring_c.proofs.Calls.{lists_refused, lists_pass}
use Rattle.bitstream.proofs.Clauses.{two}
use Rattle.scoring_c.proofs.wedgepetal_y4m_frame.Goals as goal

pub returns-then-refusal-ne0 : goal.returns-then-refusal-ne0
returns-then-refusal-ne0 c = two (λ a b. record { bytes_after = a; out_after = b }) (lists_refused c.args.session.now (length c.args.bytes.now) (λ s. frame_for s c.args.planes.now (length c.args.out.now)) c.args.bytes.now c.args.out.now c.lists_refusal-refusal.result c.lists_refusal-refusal.ensures c.if-refusal-ne0.true)

pub session_of-s-requires : goal.session_of-s-requires
session_of-s-requires c = (lengths 1 c.args.session.now (length c.args.bytes.now) (sym c.lists_refusal-refusal.ensures ∙ c.if-refusal-ne0.false)).0

pub tell-requires : goal.tell-requires
tell-requires c = (lengths 1 c.args.session.now (length c.args.bytes.now) (sym c.lists_refusal-refusal.ensures ∙ c.if-refusal-ne0.false)).1

pub returns : goal.returns
returns c = two (λ a b. record { bytes_after = a; out_after = b }) (lists_pass c.args.session.now (length c.args.bytes.now) (λ s. frame_for s c.args.planes.now (length c.args.out.now)) c.args.bytes.now c.args.out.now c.lists_refusal-refusal.result c.lists_refusal-refusal.ensures c.if-refusal-ne0.false
    c.session_of-s.result c.session_of-s.ensures c.write_frame.result c.write_frame.new.out _ c.write_frame.ensures.value c.write_frame.ensures.out_after c.tell.ensures)

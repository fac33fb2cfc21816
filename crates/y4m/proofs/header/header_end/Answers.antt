-- `y4m::header::header_end` meets its contract. Assumes nothing.
use mathlib.Core.Path.{refl, sym, ◌∙◌}
use Rattle.y4m.proofs.HeaderLaws.{line_room, end_not_fit, end_there, end_not_there}
use Rattle.y4m.proofs.header.header_end.Goals as goal

pub slice_bounds-line-end : goal.slice_bounds-line-end
slice_bounds-line-end c = (line_room c.args.n c.args.stream.now _ _ c.put_header-end.ensures.value _ c.put_header-end.ensures.out_after refl).0

pub slice_bounds-stands_at-end : goal.slice_bounds-stands_at-end
slice_bounds-stands_at-end c = (line_room c.args.n c.args.stream.now _ _ c.put_header-end.ensures.value _ c.put_header-end.ensures.out_after refl).1

pub returns-then-stands_at : goal.returns-then-stands_at
returns-then-stands_at c = end_there c.args.n c.args.stream.now _ _ (sym c.numbers_fit.ensures ∙ c.if-numbers_fit.true) _ c.stands_at.ensures c.if-stands_at.true c.put_header-end.ensures.value _ c.put_header-end.ensures.out_after

pub returns-else-stands_at : goal.returns-else-stands_at
returns-else-stands_at c = end_not_there c.args.n c.args.stream.now _ _ (sym c.numbers_fit.ensures ∙ c.if-numbers_fit.true) _ c.stands_at.ensures c.if-stands_at.false c.put_header-end.ensures.value _ c.put_header-end.ensures.out_after

pub returns-else-numbers_fit : goal.returns-else-numbers_fit
returns-else-numbers_fit c = end_not_fit c.args.n c.args.stream.now c.args.stream.now 0 (sym c.numbers_fit.ensures ∙ c.if-numbers_fit.false)

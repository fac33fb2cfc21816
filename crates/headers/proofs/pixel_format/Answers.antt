-- `headers::pixel_format` meets its contract. Assumes nothing.
use borrow.Author.Tests.{eq-eqb, ne_eqb}
use mathlib.Core.Path.{sym}
use Rattle.headers.specs.Sizes.{format_of}
use Rattle.headers.proofs.pixel_format.Goals as goal

pub returns-then-pf-eq0 : goal.returns-then-pf-eq0
unfolding format_of
returns-then-pf-eq0 c = sym (rw (eq-eqb _ _ c.if-pf-eq0.true))

pub returns-then-pf-eq2 : goal.returns-then-pf-eq2
unfolding format_of
returns-then-pf-eq2 c = sym (rw (ne_eqb _ _ c.if-pf-eq0.false, eq-eqb _ _ c.if-pf-eq2.true))

pub returns : goal.returns
unfolding format_of
returns c = sym (rw (ne_eqb _ _ c.if-pf-eq0.false, ne_eqb _ _ c.if-pf-eq2.false))
